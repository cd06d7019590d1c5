-- What every `Lists` keeps, as an index leaves its lists, becomes a free one, takes a node, and comes to lists.
use Rattle.std.proofs.Common.{◌≡◌, ◌≤◌, ◌<◌, ◌+◌, ◌==◌, inl, inr, ℕ, Option, Some, None, List, [], ◌∷◌, ◌++◌, length, arith, refl, sym, ap, ◌∙◌, get_or, set, filter, subst, length-set, get_or-set_same, get_or-set_other}
use Rattle.std.proofs.lemmas.Bool.{cases_eq, cases_lt}
use Rattle.std.proofs.lemmas.List.{get_or_append_left, get_or_push, get_or_past, length_push}
use Rattle.rds_msgs_lists.specs.declared.node.Node.{Node}
use Rattle.rds_msgs_lists.specs.declared.node.Neighbours.{Neighbours}
use Rattle.rds_msgs_lists.specs.declared.node.Side.{Side}
use Rattle.rds_msgs_lists.specs.declared.node.Side.TheVariants.{Connection, Socket}
use Rattle.rds_msgs_lists.specs.Nodes.{Links, no_node, node_at, neighbours, next_in, previous_in, unlinked, linked, ring_of, socket_ring, no_ends, fresh, freed, taken_off, put_on, placed}
use Rattle.rds_msgs_lists.specs.Lists.{times, Chain, IsRing, AreRings, Keeps, is_in}
use Rattle.rds_msgs_lists.proofs.Counts.{times_first, times_other, times-append, times-middle, times-filter-le, filter_same}
use Rattle.rds_msgs_lists.proofs.Paths.{path_on, chain_on}
use Rattle.rds_msgs_lists.proofs.Rings.{unlinked_kept, linked_kept}
use Rattle.rds_msgs_lists.proofs.All.{AreWithin, beside, ring_without, ring_with, frees_without, frees_with, all_same, frees_same}
use Rattle.rds_msgs_lists.proofs.Sockets.{rings_same, rings_without, rings_with}

-- one that is on no list is none of those on it
pub apart : (x : ℕ) (xs : List ℕ) → times x xs ≡ 0 → (k : ℕ) → 1 ≤ times k xs → k ≡ x → ⊥
apart x xs t k i e = let j : 1 ≤ times x xs = rw (← e) i in absurd (omega arith)

-- a change of one node leaves the lists that it isn't on
module _ (nodes nodes' : List Node) (x : ℕ) (away : (k : ℕ) → (k ≡ x → ⊥) → node_at nodes' k ≡ node_at nodes k) where
  pub ring_away : (side : Side) (ends : Neighbours) (xs : List ℕ) → times x xs ≡ 0 → IsRing side (ring_of nodes ends) xs → IsRing side (ring_of nodes' ends) xs
  ring_away side ends xs t h =
      path_on (next_in side (ring_of nodes ends)) (previous_in side (ring_of nodes ends)) (next_in side (ring_of nodes' ends)) (previous_in side (ring_of nodes' ends)) None xs None refl refl
      (λ k i. ap (λ (n : Node). (neighbours side n).next) (away k (apart x xs t k i)))
      (λ k i. ap (λ (n : Node). (neighbours side n).previous) (away k (apart x xs t k i))) h

  pub rings_away : (sockets : List Neighbours) (order : List ℕ) → times x order ≡ 0 → AreRings nodes sockets order → AreRings nodes' sockets order
  rings_away sockets order t h s i =
      let f : filter (is_in nodes' s) order ≡ filter (is_in nodes s) order = filter_same (is_in nodes' s) (is_in nodes s) order (λ k j. ap (λ (n : Node). n.list == s) (away k (apart x order t k j))) in
      rw f (ring_away Socket (get_or sockets s no_ends) (filter (is_in nodes s) order) (omega (arith, times-filter-le (is_in nodes s) x order)) (h s i))

  pub chain_away : (ends : Neighbours) (free : Option ℕ) (frees : List ℕ) → times x frees ≡ 0 → Chain (next_in Connection (ring_of nodes ends)) free frees → Chain (next_in Connection (ring_of nodes' ends)) free frees
  chain_away ends free frees t h =
      chain_on (next_in Connection (ring_of nodes ends)) (next_in Connection (ring_of nodes' ends)) free frees
      (λ k i. ap (λ (n : Node). n.connection.next) (away k (apart x frees t k i))) h

  pub owned_away : (order : List ℕ) (n : ℕ) → times x order ≡ 0 → ((k : ℕ) → 1 ≤ times k order → (node_at nodes k).list < n) → (k : ℕ) → 1 ≤ times k order → (node_at nodes' k).list < n
  owned_away order n t h k i = rw (away k (apart x order t k i)) (h k i)

pub set_away : (nodes : List Node) (x : ℕ) (n : Node) (k : ℕ) → (k ≡ x → ⊥) → node_at (set nodes x n) k ≡ node_at nodes k
set_away nodes x n k ne = get_or-set_other nodes x k n no_node ne

-- an index on no list becomes a free one
pub keeps_freed : (l : Links) (x : ℕ) (order frees : List ℕ) → Keeps l order frees → times x order ≡ 0 → times x frees ≡ 0 → x < length l.nodes
    → Keeps (record l { nodes = freed x l.free l.nodes; free = Some x }) order (x ∷ frees)
keeps_freed l x order frees h t tf wx =
    let n : Node = record (node_at l.nodes x) { connection = record { next = l.free; previous = None } } in
    let nodes' = set l.nodes x n in
    let away = set_away l.nodes x n in
    let len = length-set l.nodes x n in
    let at : node_at nodes' x ≡ n = get_or-set_same l.nodes x n no_node wx in
    record {
      all = ring_away l.nodes nodes' x away Connection l.ends order t h.all;
      sockets = rings_away l.nodes nodes' x away l.sockets order t h.sockets;
      free_ones = (refl, subst (λ (o : Option ℕ). Chain (next_in Connection (ring_of nodes' l.ends)) o frees) (sym (ap (λ (m : Node). m.connection.next) at)) (chain_away l.nodes nodes' x away l.ends l.free frees tf h.free_ones));
      once = λ k.
          let a = h.once k in
          elim (cases_eq x k) [
            | inl e ↦ let b : times k order ≡ 0 = rw (← e) t in let d : times k frees ≡ 0 = rw (← e) tf in let f : times k (x ∷ frees) ≡ 1 + times k frees = subst (λ (y : ℕ). times y (x ∷ frees) ≡ 1 + times y frees) e (times_first x frees) in omega arith
            | inr ne ↦ omega (arith, times_other k x frees ne)
          ];
      within = λ k i. elim (cases_eq x k) [ inl e ↦ omega arith | inr ne ↦ let a = h.within k (omega (arith, times_other k x frees ne)) in omega arith ];
      owned = owned_away l.nodes nodes' x away order (length l.sockets) t h.owned;
    }

-- an index leaves its lists, and becomes a free one
pub keeps_off : (l : Links) (ys : List ℕ) (x : ℕ) (zs frees : List ℕ) → Keeps l (ys ++ x ∷ zs) frees → Keeps (taken_off x l) (ys ++ zs) (x ∷ frees)
unfolding taken_off
keeps_off l ys x zs frees h =
    let r = ring_of l.nodes l.ends in
    let r1 = unlinked Connection x r in
    let k1 = unlinked_kept Connection x r in
    let s = (node_at r1.nodes x).list in
    let q = socket_ring r1.nodes l.sockets s in
    let r2 = unlinked Socket x q in
    let k2 = unlinked_kept Socket x q in
    let o = h.once x in
    let m = times-middle x x ys zs in
    let f = times_first x [] in
    let t : times x (ys ++ zs) ≡ 0 = omega arith in
    let tf : times x frees ≡ 0 = omega arith in
    let w : AreWithin l.nodes (ys ++ x ∷ zs) = λ k i. h.within k (omega arith) in
    let e1 = k1.len in
    let e2 = k2.len in
    let w1 : AreWithin r1.nodes (ys ++ x ∷ zs) = λ k i. let j = w k i in omega arith in
    let is : s < length l.sockets = rw (k1.list x) (h.owned x (omega arith)) in
    keeps_freed (record l { nodes = r2.nodes; sockets = set l.sockets s r2.ends; ends = r1.ends }) x (ys ++ zs) frees
    (record {
      all = all_same r1.nodes r2.nodes r1.ends k2.others (ys ++ zs) (ring_without Connection r ys x zs w t h.all);
      sockets = rings_without r1.nodes l.sockets ys x zs s refl is w1 t (rings_same l.nodes r1.nodes l.sockets (ys ++ x ∷ zs) k1.list k1.others h.sockets);
      free_ones = frees_same r1.nodes r2.nodes r1.ends k2.others l.free frees (frees_without r x l.free frees (beside Connection r ys x zs w h.all) tf h.free_ones);
      once = λ k. let n = times-middle k x ys zs in let a = h.once k in omega arith;
      within = λ k i. let n = times-middle k x ys zs in let a = h.within k (omega arith) in omega arith;
      owned = λ k i.
          let n = times-middle k x ys zs in
          rw (k2.list k, k1.list k) (let a = h.owned k (omega arith) in omega (arith, length-set l.sockets s r2.ends));
    })
    t tf (let a = h.within x (omega arith) in omega arith)

-- an index on no list comes to its lists
pub keeps_put : (l : Links) (x s : ℕ) (order frees : List ℕ) → Keeps l order frees → times x order ≡ 0 → times x frees ≡ 0 → x < length l.nodes
    → (node_at l.nodes x).list ≡ s → s < length l.sockets → Keeps (put_on s x l) (order ++ x ∷ []) frees
unfolding put_on
keeps_put l x s order frees h t tf wx e is =
    let r = ring_of l.nodes l.ends in
    let r1 = linked Connection x r in
    let k1 = linked_kept Connection x r in
    let q = socket_ring r1.nodes l.sockets s in
    let r2 = linked Socket x q in
    let k2 = linked_kept Socket x q in
    let w : AreWithin l.nodes order = λ k i. h.within k (omega arith) in
    let e1 = k1.len in
    let e2 = k2.len in
    let w1 : AreWithin r1.nodes order = λ k i. let j = w k i in omega arith in
    let once' : (k : ℕ) → times k order + times k frees ≤ 1 = h.once in
    record {
      all = all_same r1.nodes r2.nodes r1.ends k2.others (order ++ x ∷ []) (ring_with Connection r order x w t wx h.all);
      sockets = rings_with r1.nodes l.sockets order x s (k1.list x ∙ e) is w1 t (omega arith) (rings_same l.nodes r1.nodes l.sockets order k1.list k1.others h.sockets);
      free_ones = frees_same r1.nodes r2.nodes r1.ends k2.others l.free frees (frees_with r order x l.free frees w h.all t wx tf once' h.free_ones);
      once = λ k.
          let a = h.once k in
          let n = times-append k order (x ∷ []) in
          elim (cases_eq x k) [
            | inl y ↦ let b : times k order ≡ 0 = rw (← y) t in let d : times k frees ≡ 0 = rw (← y) tf in let f : times k (x ∷ []) ≡ 1 = rw (← y) (times_first x []) in omega arith
            | inr ne ↦ let f = times_other k x [] ne in omega arith
          ];
      within = λ k i.
          let n = times-append k order (x ∷ []) in
          elim (cases_eq x k) [
            | inl y ↦ omega arith
            | inr ne ↦ let f = times_other k x [] ne in let a = h.within k (omega arith) in omega arith
          ];
      owned = λ k i.
          let n = times-append k order (x ∷ []) in
          let ls = length-set l.sockets s r2.ends in
          rw (k2.list k, k1.list k) (elim (cases_eq x k) [
            | inl y ↦ let b : (node_at l.nodes k).list ≡ s = rw (← y) e in omega arith
            | inr ne ↦ let f = times_other k x [] ne in let a = h.owned k (omega arith) in omega arith
          ]);
    }

-- What there is once an index has a fresh node.
pub record HasPlaced (l : Links) (x s : ℕ) (order frees : List ℕ) : Type 0 where
  pub keeps : Keeps l order frees
  pub off_order : times x order ≡ 0
  pub off_frees : times x frees ≡ 0
  pub within : x < length l.nodes
  pub its : (node_at l.nodes x).list ≡ s

-- the first free one
pub placed_free : (l : Links) (x s : ℕ) (order frees : List ℕ) → Keeps l order (x ∷ frees) → l.free ≡ Some x → HasPlaced (placed s l) x s order frees
placed_free l x s order frees h e =
    let nodes' = set l.nodes x (fresh s) in
    let away = set_away l.nodes x (fresh s) in
    let len = length-set l.nodes x (fresh s) in
    let f = times_first x frees in
    let o = h.once x in
    let wx : x < length l.nodes = h.within x (omega arith) in
    let t : times x order ≡ 0 = omega arith in
    let tf : times x frees ≡ 0 = omega arith in
    rw e (record {
      keeps = record {
        all = ring_away l.nodes nodes' x away Connection l.ends order t h.all;
        sockets = rings_away l.nodes nodes' x away l.sockets order t h.sockets;
        free_ones = chain_away l.nodes nodes' x away l.ends (node_at l.nodes x).connection.next frees tf h.free_ones.1;
        once = λ k. let a = h.once k in omega arith;
        within = λ k i. let a = h.within k (omega arith) in omega arith;
        owned = owned_away l.nodes nodes' x away order (length l.sockets) t h.owned;
      };
      off_order = t;
      off_frees = tf;
      within = omega arith;
      its = ap (λ (n : Node). n.list) (get_or-set_same l.nodes x (fresh s) no_node wx);
    })

pub push_away : (nodes : List Node) (n : Node) (k : ℕ) → (k ≡ length nodes → ⊥) → node_at (nodes ++ n ∷ []) k ≡ node_at nodes k
push_away nodes n k ne =
    elim (cases_lt k (length nodes)) [
      | inl i ↦ get_or_append_left nodes (n ∷ []) no_node k i
      | inr j ↦ get_or_past (nodes ++ n ∷ []) k no_node (omega (arith, length_push nodes n)) ∙ sym (get_or_past nodes k no_node j)
    ]

-- one that none had
pub placed_new : (l : Links) (s : ℕ) (order : List ℕ) → Keeps l order [] → l.free ≡ None → HasPlaced (placed s l) (length l.nodes) s order []
placed_new l s order h e =
    let x = length l.nodes in
    let nodes' = l.nodes ++ fresh s ∷ [] in
    let away = push_away l.nodes (fresh s) in
    let len = length_push l.nodes (fresh s) in
    let t : times x order ≡ 0 =
    elim (cases_eq (times x order) 0) [ inl z ↦ z | inr nz ↦ let a = h.within x (omega arith) in absurd (omega arith) ] in
    rw e (record {
      keeps = record {
        all = ring_away l.nodes nodes' x away Connection l.ends order t h.all;
        sockets = rings_away l.nodes nodes' x away l.sockets order t h.sockets;
        free_ones = refl;
        once = h.once;
        within = λ k i. let a = h.within k i in omega arith;
        owned = owned_away l.nodes nodes' x away order (length l.sockets) t h.owned;
      };
      off_order = t;
      off_frees = refl;
      within = omega arith;
      its = ap (λ (n : Node). n.list) (get_or_push l.nodes (fresh s) no_node x refl);
    })
