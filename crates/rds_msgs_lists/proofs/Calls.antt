-- What each call makes of lists and of what contracts see of them.
use Rattle.std.proofs.Common.{◌≡◌, ◌≤◌, ◌<◌, ◌+◌, ◌-◌, max, inl, inr, ℕ, zero, suc, Option, Some, None, List, [], ◌∷◌, ◌++◌, length, arith, refl, sym, ap, ◌∙◌, get_or, set, subst, length-set, length-append, replicate, take, drop}
use Rattle.std.proofs.lemmas.Option.{none-some}
use Rattle.std.proofs.lemmas.Bool.{cases_eq}
use Rattle.std.proofs.lemmas.List.{map-append, length_push, length-map, take_all, take_at}
use Rattle.std.specs.List.{All}
use Rattle.rds_msgs_lists.specs.declared.lists.TheConstants.{MAX_INDEXES}
use Rattle.rds_msgs_lists.specs.declared.node.Node.{Node}
use Rattle.rds_msgs_lists.specs.declared.node.Neighbours.{Neighbours}
use Rattle.rds_msgs_lists.specs.declared.node.Side.TheVariants.{Connection, Socket}
use Rattle.rds_msgs_lists.specs.Nodes.{Links, IsWithin, node_at, ring_of, socket_ring, no_ends, short_ring, off_ring, freed, taken_off, end_ring, on_ring, put_on, fresh, placed, index_from, placed_nodes, free_from, unlinked, CanCome}
use Rattle.rds_msgs_lists.specs.Lists.{Place, times, indexes, IsOn, IsDistinct, AtEach, Keeps, IsLists, order_of, frees_of, places_of, view_of}
use Rattle.rds_msgs_lists.proofs.Counts.{split_at, times_first}
use Rattle.rds_msgs_lists.proofs.Rings.{unlinked_kept, linked_kept, set_keeps}
use Rattle.rds_msgs_lists.proofs.Keeping.{HasPlaced, apart, set_away, push_away, keeps_off, keeps_put, placed_free, placed_new}
use Rattle.rds_msgs_lists.proofs.Views.{lists_by, view_by, indexes_of, on_is, cut, can_come}

pub length_places : (nodes : List Node) (order : List ℕ) → length (places_of nodes order) ≡ length order
length_places nodes order = length-map order _

-- places are the same where the sockets of the nodes are
pub places_same : (nodes nodes' : List Node) (order : List ℕ) → ((k : ℕ) → 1 ≤ times k order → (node_at nodes' k).list ≡ (node_at nodes k).list)
    → places_of nodes' order ≡ places_of nodes order
places_same nodes nodes' [] h = refl
places_same nodes nodes' (x ∷ xs) h =
    let e = h x (omega (arith, times_first x xs)) in
    let r = places_same nodes nodes' xs (λ k i. h k (omega arith)) in
    rw (e, r) refl

pub owned_places : (nodes : List Node) (order : List ℕ) (n : ℕ) → ((k : ℕ) → 1 ≤ times k order → (node_at nodes k).list < n) → All (λ (p : Place). p.socket < n) (places_of nodes order)
owned_places nodes [] n h k d i = absurd (omega arith)
owned_places nodes (x ∷ xs) n h zero d i = h x (omega (arith, times_first x xs))
owned_places nodes (x ∷ xs) n h (suc k) d i = owned_places nodes xs n (λ j a. h j (omega arith)) k d (omega arith)

pub no_ends_at : (n s : ℕ) → get_or (replicate n no_ends) s no_ends ≡ no_ends
no_ends_at zero s = refl
no_ends_at (suc n) zero = refl
no_ends_at (suc n) (suc s) = no_ends_at n s

pub all_none : (n m : ℕ) (old items : List Neighbours) (e : Neighbours) → items ≡ take n old ++ replicate (n - m) e → old ≡ [] → m ≡ 0 → e ≡ no_ends
    → items ≡ replicate n no_ends
all_none n m old items e h a b d =
    let z : n - m ≡ n = omega arith in
    let t : ◌≡◌ {A = List Neighbours} (take n []) [] = take_all n [] (omega arith) in
    h ∙ rw (a, z, d, t) refl

-- lists that none came to
pub none_yet : (sockets : List Neighbours) (n capacity : ℕ) → sockets ≡ replicate n no_ends
    → IsLists (record { nodes = []; sockets = sockets; ends = no_ends; free = None }) 0 0 capacity
none_yet sockets n capacity e =
    lists_by (record { nodes = []; sockets = sockets; ends = no_ends; free = None }) [] [] 0 0 capacity
    (record {
      all = (refl, refl);
      sockets = λ s i.
          let d : get_or sockets s no_ends ≡ no_ends = rw e (no_ends_at n s) in
          (ap (λ (b : Neighbours). b.next) d, ap (λ (b : Neighbours). b.previous) d);
      free_ones = refl;
      once = λ k. omega arith;
      within = λ k i. absurd (omega arith);
      owned = λ k i. absurd (omega arith);
    }) refl refl (omega arith) (omega arith)

module _ (l : Links) (used spare capacity : ℕ) (h : IsLists l used spare capacity) where
  pub distinct_is : IsDistinct (places_of l.nodes (order_of l used))
  distinct_is k =
      let e : times k (indexes (places_of l.nodes (order_of l used))) ≡ times k (order_of l used) = ap (times k) (indexes_of l.nodes (order_of l used)) in
      let o = h.keeps.once k in
      omega arith

  pub within_is : (k : ℕ) → IsOn (places_of l.nodes (order_of l used)) k → k < length l.nodes
  within_is k i = let o = on_is l.nodes (order_of l used) k i in h.keeps.within k (omega arith)

  pub owned_is : All (λ (p : Place). p.socket < length l.sockets) (places_of l.nodes (order_of l used))
  owned_is = owned_places l.nodes (order_of l used) (length l.sockets) h.keeps.owned

  pub used_is : length (places_of l.nodes (order_of l used)) ≡ used
  used_is = length_places l.nodes (order_of l used) ∙ h.count

-- what a removal leaves of the nodes
pub off_len : (x : ℕ) (l : Links) → length (taken_off x l).nodes ≡ length l.nodes
unfolding taken_off
off_len x l =
    let r = short_ring x l.nodes l.ends in
    let q = socket_ring r.nodes l.sockets (node_at r.nodes x).list in
    length-set (unlinked Socket x q).nodes x _ ∙ ((unlinked_kept Socket x q).len ∙ (unlinked_kept Connection x (ring_of l.nodes l.ends)).len)

pub off_list : (x : ℕ) (l : Links) (k : ℕ) → (node_at (taken_off x l).nodes k).list ≡ (node_at l.nodes k).list
unfolding taken_off
off_list x l k =
    let r = short_ring x l.nodes l.ends in
    let q = socket_ring r.nodes l.sockets (node_at r.nodes x).list in
    set_keeps (λ (n : Node). n.list) (unlinked Socket x q).nodes x _ refl k ∙ ((unlinked_kept Socket x q).list k ∙ (unlinked_kept Connection x (ring_of l.nodes l.ends)).list k)

pub off_sockets : (x : ℕ) (l : Links) → length (taken_off x l).sockets ≡ length l.sockets
unfolding taken_off
off_sockets x l = length-set l.sockets _ _

-- an index leaves its lists
pub lists_off : (l : Links) (used spare capacity x : ℕ) → IsLists l used spare capacity → 1 ≤ times x (order_of l used) → IsLists (taken_off x l) (used - 1) spare capacity
lists_off l used spare capacity x h on =
    let order = order_of l used in
    let frees = frees_of l used in
    let c = split_at x order on in
    let k = keeps_off l c.0 x c.1 frees (subst (λ (xs : List ℕ). Keeps l xs frees) c.2 h.keeps) in
    let n : length order ≡ length (c.0 ++ x ∷ c.1) = ap length c.2 in
    let a = length-append c.0 (x ∷ c.1) in
    let b = length-append c.0 c.1 in
    let e = off_len x l in
    let count = h.count in
    let total = h.total in
    lists_by (taken_off x l) (c.0 ++ c.1) (x ∷ frees) (used - 1) spare capacity k (omega arith) (omega arith) (let few = h.few in omega arith) (let room = h.room in omega arith)

pub view_off : (l : Links) (used spare capacity x : ℕ) → IsLists l used spare capacity
    → AtEach (places_of l.nodes (order_of l used)) x (λ before p rest. view_of (taken_off x l) (used - 1) spare ≡ record { places = before ++ rest; sockets = length l.sockets; spare = spare; made = length l.nodes })
view_off l used spare capacity x h before p rest e same =
    let order = order_of l used in
    let frees = frees_of l used in
    let c = cut l.nodes order before p rest e in
    let w : order ≡ c.ys ++ x ∷ c.zs = c.whole ∙ ap (λ (j : ℕ). c.ys ++ j ∷ c.zs) same in
    let k = keeps_off l c.ys x c.zs frees (subst (λ (xs : List ℕ). Keeps l xs frees) w h.keeps) in
    let n : length order ≡ length (c.ys ++ x ∷ c.zs) = ap length w in
    let a = length-append c.ys (x ∷ c.zs) in
    let b = length-append c.ys c.zs in
    let count = h.count in
    let v = view_by (taken_off x l) (c.ys ++ c.zs) (x ∷ frees) (used - 1) spare k (omega arith) in
    let f : places_of (taken_off x l).nodes (c.ys ++ c.zs) ≡ before ++ rest =
    places_same l.nodes (taken_off x l).nodes (c.ys ++ c.zs) (λ j i. off_list x l j) ∙ (map-append _ c.ys c.zs ∙ (ap (λ (w : List Place). w ++ places_of l.nodes c.zs) (sym c.front) ∙ ap (λ (w : List Place). before ++ w) (sym c.back))) in
    v ∙ rw (f, off_sockets x l, off_len x l) refl

-- what a push leaves of the nodes
pub put_len : (s x : ℕ) (l : Links) → length (put_on s x l).nodes ≡ length l.nodes
unfolding put_on
put_len s x l =
    let r = end_ring x l.nodes l.ends in
    (linked_kept Socket x (socket_ring r.nodes l.sockets s)).len ∙ (linked_kept Connection x (ring_of l.nodes l.ends)).len

pub put_list : (s x : ℕ) (l : Links) (k : ℕ) → (node_at (put_on s x l).nodes k).list ≡ (node_at l.nodes k).list
unfolding put_on
put_list s x l k =
    let r = end_ring x l.nodes l.ends in
    (linked_kept Socket x (socket_ring r.nodes l.sockets s)).list k ∙ (linked_kept Connection x (ring_of l.nodes l.ends)).list k

pub put_sockets : (s x : ℕ) (l : Links) → length (put_on s x l).sockets ≡ length l.sockets
unfolding put_on
put_sockets s x l = length-set l.sockets _ _

-- What a fresh node for a push is.
pub record HasNode (l : Links) (s used : ℕ) (order : List ℕ) : Type 0 where
  pub frees : List ℕ
  pub it : HasPlaced (placed s l) (index_from l.free l.nodes) s order frees
  pub lists : (k : ℕ) → 1 ≤ times k order → (node_at (placed s l).nodes k).list ≡ (node_at l.nodes k).list
  pub total : used + 1 + length frees ≡ length (placed s l).nodes
  pub made : length (placed s l).nodes ≡ max (length l.nodes) (index_from l.free l.nodes + 1)
  pub next : index_from l.free l.nodes ≤ length l.nodes
  pub all_used : index_from l.free l.nodes ≡ length l.nodes → used ≡ length l.nodes
  pub free_within : IsWithin l.free l.nodes
  pub none_free : l.free ≡ None → used ≡ length l.nodes

pub has_node : (l : Links) (s used : ℕ) (order frees : List ℕ) → Keeps l order frees → used + length frees ≡ length l.nodes → HasNode l s used order
has_node l s used order [] h t =
    let e : l.free ≡ None = h.free_ones in
    let p = placed_new l s order h e in
    let i : index_from l.free l.nodes ≡ length l.nodes = rw e refl in
    let n : length (placed s l).nodes ≡ length l.nodes + 1 = rw e (length_push l.nodes (fresh s)) in
    record {
      frees = [];
      it = rw i p;
      lists = λ k j. rw e (ap (λ (m : Node). m.list) (push_away l.nodes (fresh s) k (λ a. let w = h.within k (omega arith) in absurd (omega arith))));
      total = omega arith;
      made = omega arith;
      next = omega arith;
      all_used = λ a. omega arith;
      free_within = rw e tt;
      none_free = λ a. omega arith;
    }
has_node l s used order (x ∷ frees) h t =
    let e : l.free ≡ Some x = h.free_ones.0 in
    let p = placed_free l x s order frees h e in
    let i : index_from l.free l.nodes ≡ x = rw e refl in
    let n : length (placed s l).nodes ≡ length l.nodes = rw e (length-set l.nodes x (fresh s)) in
    let f = times_first x frees in
    let w = h.within x (omega arith) in
    let off = p.off_order in
    record {
      frees = frees;
      it = rw i p;
      lists = λ k j. rw e (ap (λ (m : Node). m.list) (set_away l.nodes x (fresh s) k (apart x order off k j)));
      total = omega arith;
      made = omega arith;
      next = omega arith;
      all_used = λ a. absurd (omega arith);
      free_within = rw e w;
      none_free = λ a. absurd (none-some x (sym a ∙ e));
    }

-- an index comes to its lists
pub lists_on : (l : Links) (used spare capacity s : ℕ) → IsLists l used spare capacity → s < length l.sockets → used < MAX_INDEXES → 1 ≤ spare
    → IsLists (put_on s (index_from l.free l.nodes) (placed s l)) (used + 1) (spare - 1) capacity
lists_on l used spare capacity s h is few room =
    let x = index_from l.free l.nodes in
    let order = order_of l used in
    let p = has_node l s used order (frees_of l used) h.keeps h.total in
    let k = keeps_put (placed s l) x s order p.frees p.it.keeps p.it.off_order p.it.off_frees p.it.within p.it.its is in
    let n = put_len s x (placed s l) in
    let a = length_push order x in
    let count = h.count in
    let total = p.total in
    lists_by (put_on s x (placed s l)) (order ++ x ∷ []) p.frees (used + 1) (spare - 1) capacity k (omega arith) (omega arith)
    (let f = h.few in let m = p.made in let u = p.all_used in let v = p.next in
    elim (cases_eq x (length l.nodes)) [ inl y ↦ let z = u y in omega arith | inr ne ↦ omega arith ])
    (let r = h.room in omega arith)

pub view_on : (l : Links) (used spare capacity s : ℕ) → IsLists l used spare capacity → s < length l.sockets
    → view_of (put_on s (index_from l.free l.nodes) (placed s l)) (used + 1) (spare - 1) ≡ record {
      places = places_of l.nodes (order_of l used) ++ record { index = index_from l.free l.nodes; socket = s } ∷ [];
      sockets = length l.sockets;
      spare = spare - 1;
      made = max (length l.nodes) (index_from l.free l.nodes + 1);
    }
view_on l used spare capacity s h is =
    let x = index_from l.free l.nodes in
    let order = order_of l used in
    let p = has_node l s used order (frees_of l used) h.keeps h.total in
    let l' = put_on s x (placed s l) in
    let k = keeps_put (placed s l) x s order p.frees p.it.keeps p.it.off_order p.it.off_frees p.it.within p.it.its is in
    let a = length_push order x in
    let count = h.count in
    let v = view_by l' (order ++ x ∷ []) p.frees (used + 1) (spare - 1) k (omega arith) in
    let f : places_of l'.nodes order ≡ places_of l.nodes order = places_same l.nodes l'.nodes order (λ j i. put_list s x (placed s l) j ∙ p.lists j i) in
    let its : (node_at l'.nodes x).list ≡ s = put_list s x (placed s l) x ∙ p.it.its in
    let g : places_of l'.nodes (order ++ x ∷ []) ≡ places_of l.nodes order ++ record { index = x; socket = s } ∷ [] =
    map-append _ order (x ∷ []) ∙ rw (f, its) refl in
    v ∙ rw (g, put_sockets s x (placed s l), put_len s x (placed s l) ∙ p.made) refl

-- and was on none
pub off_before : (l : Links) (used spare capacity s : ℕ) → IsLists l used spare capacity → IsOn (places_of l.nodes (order_of l used)) (index_from l.free l.nodes) → ⊥
off_before l used spare capacity s h on =
    let p = has_node l s used (order_of l used) (frees_of l used) h.keeps h.total in
    let o = on_is l.nodes (order_of l used) (index_from l.free l.nodes) on in
    let z = p.it.off_order in
    omega arith

pub can_put : (l : Links) (used spare capacity s : ℕ) → IsLists l used spare capacity → s < length l.sockets
    → CanCome s (index_from l.free l.nodes) (placed_nodes l.free s l.nodes) l.sockets l.ends
can_put l used spare capacity s h is =
    let p = has_node l s used (order_of l used) (frees_of l used) h.keeps h.total in
    can_come (placed s l) (order_of l used) p.frees p.it.keeps (index_from l.free l.nodes) s p.it.within is

pub node_for : (l : Links) (used spare capacity s : ℕ) → IsLists l used spare capacity → HasNode l s used (order_of l used)
node_for l used spare capacity s h = has_node l s used (order_of l used) (frees_of l used) h.keeps h.total

-- what is written through a slice of a vector
pub written : {X : Type 0} (n : ℕ) (ws ys : List X) → length ws ≡ n → take n (ws ++ drop (length ws) ys) ≡ ws
written n ws ys e = take_at ws (drop (length ws) ys) n e

-- the lists after a removal, and after a push, from what the calls below say
pub off_is : (l : Links) (x y : ℕ) (n nodes' : List Node) (m sockets' : List Neighbours) (ends' : Neighbours) (free' : Option ℕ) → y ≡ x → n ≡ l.nodes → m ≡ l.sockets
    → ends' ≡ (short_ring y n l.ends).ends → nodes' ≡ freed y l.free (off_ring y (short_ring y n l.ends).nodes m).nodes
    → sockets' ≡ set m (node_at (short_ring y n l.ends).nodes y).list (off_ring y (short_ring y n l.ends).nodes m).ends → free' ≡ Some y
    → record { nodes = nodes'; sockets = sockets'; ends = ends'; free = free' } ≡ taken_off x l
unfolding taken_off
off_is l x y n nodes' m sockets' ends' free' a b c e f g i = rw (e, f, g, i, a, b, c) refl

pub on_is_put : (l : Links) (s x : ℕ) (n nodes' : List Node) (m sockets' : List Neighbours) (ends' : Neighbours) (free' : Option ℕ) → x ≡ index_from l.free l.nodes
    → n ≡ placed_nodes l.free s l.nodes → m ≡ l.sockets
    → ends' ≡ (end_ring x n l.ends).ends → nodes' ≡ (on_ring s x (end_ring x n l.ends).nodes m).nodes
    → sockets' ≡ set m s (on_ring s x (end_ring x n l.ends).nodes m).ends → free' ≡ free_from l.free l.nodes
    → record { nodes = nodes'; sockets = sockets'; ends = ends'; free = free' } ≡ put_on s (index_from l.free l.nodes) (placed s l)
unfolding put_on
on_is_put l s x n nodes' m sockets' ends' free' a b c e f g i = rw (e, f, g, i, a, b, c) refl
