-- The lists of sockets: what a linking and an unlinking on either side leave of them.
use Rattle.std.proofs.Common.{◌≡◌, ◌≤◌, ◌<◌, ◌==◌, inl, inr, ℕ, true, false, Option, Some, None, List, [], ◌∷◌, ◌++◌, length, arith, refl, sym, ap, ◌∙◌, set, filter, subst, length-set, get_or-set_same, get_or-set_other}
use Rattle.std.proofs.lemmas.Option.{same_Some, none-some}
use Rattle.std.proofs.lemmas.Bool.{cases_eq, eqb-true, eq-eqb, ne_eqb}
use Rattle.std.proofs.lemmas.List.{append-nil}
use Rattle.std.proofs.lemmas.List.Elements.{filter-append}
use Rattle.rds_msgs_lists.specs.declared.node.Node.{Node}
use Rattle.rds_msgs_lists.specs.declared.node.Neighbours.{Neighbours}
use Rattle.rds_msgs_lists.specs.declared.node.Side.TheVariants.{Socket}
use Rattle.rds_msgs_lists.specs.Nodes.{Ring, node_at, neighbours, next_in, previous_in, unlinked, linked, ring_of, socket_ring, no_ends}
use Rattle.rds_msgs_lists.specs.Lists.{times, IsRing, AreRings, is_in}
use Rattle.rds_msgs_lists.proofs.Counts.{times-append, times-filter-le, filtered_passes, filter_same}
use Rattle.rds_msgs_lists.proofs.Paths.{Keeping, path_on, path_kept, path_last}
use Rattle.rds_msgs_lists.proofs.Rings.{unlinked_kept, linked_kept}
use Rattle.rds_msgs_lists.proofs.All.{AreWithin, beside, without_at, with_at, ring_without, ring_with}

pub in_same : (nodes nodes' : List Node) (s : ℕ) → ((k : ℕ) → (node_at nodes' k).list ≡ (node_at nodes k).list) → (xs : List ℕ) → filter (is_in nodes' s) xs ≡ filter (is_in nodes s) xs
in_same nodes nodes' s list xs = filter_same (is_in nodes' s) (is_in nodes s) xs (λ k i. ap (λ (n : ℕ). n == s) (list k))

-- a filter of a list with one in its middle
pub filter_in : (nodes : List Node) (s x : ℕ) (ys zs : List ℕ) → (node_at nodes x).list ≡ s
    → filter (is_in nodes s) (ys ++ x ∷ zs) ≡ filter (is_in nodes s) ys ++ x ∷ filter (is_in nodes s) zs
filter_in nodes s x ys zs e =
    let t : is_in nodes s x ≡ true = eq-eqb _ s e in
    let f : filter (is_in nodes s) (x ∷ zs) ≡ x ∷ filter (is_in nodes s) zs = rw t refl in
    filter-append (is_in nodes s) ys (x ∷ zs) ∙ ap (λ (w : List ℕ). filter (is_in nodes s) ys ++ w) f

pub filter_out : (nodes : List Node) (s x : ℕ) (ys zs : List ℕ) → ((node_at nodes x).list ≡ s → ⊥)
    → filter (is_in nodes s) (ys ++ x ∷ zs) ≡ filter (is_in nodes s) (ys ++ zs)
filter_out nodes s x ys zs e =
    let t : is_in nodes s x ≡ false = ne_eqb _ s e in
    let f : filter (is_in nodes s) (x ∷ zs) ≡ filter (is_in nodes s) zs = rw t refl in
    filter-append (is_in nodes s) ys (x ∷ zs) ∙ (ap (λ (w : List ℕ). filter (is_in nodes s) ys ++ w) f ∙ sym (filter-append (is_in nodes s) ys zs))

-- those of a socket are of the order
pub own_within : (nodes : List Node) (s : ℕ) (xs : List ℕ) → AreWithin nodes xs → AreWithin nodes (filter (is_in nodes s) xs)
own_within nodes s xs w k i = w k (omega (arith, times-filter-le (is_in nodes s) k xs))

-- a change on the list of all leaves those of sockets
pub rings_same : (nodes nodes' : List Node) (sockets : List Neighbours) (order : List ℕ)
    → ((k : ℕ) → (node_at nodes' k).list ≡ (node_at nodes k).list) → ((k : ℕ) → neighbours Socket (node_at nodes' k) ≡ neighbours Socket (node_at nodes k))
    → AreRings nodes sockets order → AreRings nodes' sockets order
rings_same nodes nodes' sockets order list same h s i =
    rw (in_same nodes nodes' s list order)
    (path_on (next_in Socket (socket_ring nodes sockets s)) (previous_in Socket (socket_ring nodes sockets s)) _ _ None (filter (is_in nodes s) order) None refl refl
    (λ k j. ap (λ (b : Neighbours). b.next) (same k)) (λ k j. ap (λ (b : Neighbours). b.previous) (same k)) (h s i))

-- a ring of a socket is what its nodes and its ends are
pub ring_by : (nodes : List Node) (e : Neighbours) (r : Ring) (xs ys : List ℕ) → r.nodes ≡ nodes → e ≡ r.ends → ys ≡ xs → IsRing Socket r xs → IsRing Socket (record { nodes = nodes; ends = e }) ys
ring_by nodes e r xs ys a b c h =
    rw (b, c) (subst (λ (n : List Node). IsRing Socket (record { nodes = n; ends = r.ends }) xs) a h)

-- what a change of one ring keeps, with the ends of another
pub keep_next : (r r' : Ring) (e : Neighbours) (x : ℕ) → Keeping (next_in Socket r) (previous_in Socket r) (next_in Socket r') (previous_in Socket r') x
    → (o : Option ℕ) → (next_in Socket (ring_of r.nodes e) o ≡ Some x → ⊥) → next_in Socket (ring_of r'.nodes e) o ≡ next_in Socket (ring_of r.nodes e) o
keep_next r r' e x y None h = refl
keep_next r r' e x y (Some k) h = y.next_same (Some k) h

pub keep_previous : (r r' : Ring) (e : Neighbours) (x : ℕ) → Keeping (next_in Socket r) (previous_in Socket r) (next_in Socket r') (previous_in Socket r') x
    → (o : Option ℕ) → (previous_in Socket (ring_of r.nodes e) o ≡ Some x → ⊥) → previous_in Socket (ring_of r'.nodes e) o ≡ previous_in Socket (ring_of r.nodes e) o
keep_previous r r' e x y None h = refl
keep_previous r r' e x y (Some k) h = y.previous_same (Some k) h

pub keep_at : (r r' : Ring) (e : Neighbours) (x : ℕ) → Keeping (next_in Socket r) (previous_in Socket r) (next_in Socket r') (previous_in Socket r') x
    → Keeping (next_in Socket (ring_of r.nodes e)) (previous_in Socket (ring_of r.nodes e)) (next_in Socket (ring_of r'.nodes e)) (previous_in Socket (ring_of r'.nodes e)) x
keep_at r r' e x y = record { next_same = keep_next r r' e x y; previous_same = keep_previous r r' e x y }

-- those of another socket are neither the last of a socket's list, nor one that is on none
pub others_far : (nodes : List Node) (r : Ring) (order : List ℕ) (x u s : ℕ) → (u ≡ s → ⊥) → times x order ≡ 0 → IsRing Socket r (filter (is_in nodes s) order)
    → (k : ℕ) → 1 ≤ times k (filter (is_in nodes u) order) → (Some k ≡ previous_in Socket r None → ⊥) × (Some k ≡ Some x → ⊥)
others_far nodes r order x u s ne t h k i =
    let own : (node_at nodes k).list ≡ u = eqb-true _ u (filtered_passes (is_in nodes u) k order i) in (
      λ a.
          elim (path_last (next_in Socket r) (previous_in Socket r) None (filter (is_in nodes s) order) None h) [
            | inl n ↦ none-some k (sym n ∙ sym a)
            | inr f ↦
                let same : k ≡ f.0 = same_Some k f.0 (a ∙ f.1) in
                let its : (node_at nodes f.0).list ≡ s = eqb-true _ s (filtered_passes (is_in nodes s) f.0 order f.2) in
                ne (sym own ∙ (ap (λ (j : ℕ). (node_at nodes j).list) same ∙ its))
          ],
      λ a.
          let same : k ≡ x = same_Some k x a in
          let j : 1 ≤ times x (filter (is_in nodes u) order) = rw (← same) i in
          absurd (omega (arith, times-filter-le (is_in nodes u) x order)),
    )

module _ (nodes : List Node) (sockets : List Neighbours) where
  -- an index leaves the list of its socket
  pub rings_without : (ys : List ℕ) (x : ℕ) (zs : List ℕ) (s : ℕ) → (node_at nodes x).list ≡ s → s < length sockets → AreWithin nodes (ys ++ x ∷ zs) → times x (ys ++ zs) ≡ 0
      → AreRings nodes sockets (ys ++ x ∷ zs)
      → AreRings (unlinked Socket x (socket_ring nodes sockets s)).nodes (set sockets s (unlinked Socket x (socket_ring nodes sockets s)).ends) (ys ++ zs)
  rings_without ys x zs s e is w t h u iu =
      let r = socket_ring nodes sockets s in
      let r' = unlinked Socket x r in
      let k = unlinked_kept Socket x r in
      let own = λ (v : ℕ) (xs : List ℕ). filter (is_in nodes v) xs in
      let f : own s (ys ++ x ∷ zs) ≡ own s ys ++ x ∷ own s zs = filter_in nodes s x ys zs e in
      let w' : AreWithin nodes (own s ys ++ x ∷ own s zs) = subst (λ (xs : List ℕ). AreWithin nodes xs) f (own_within nodes s (ys ++ x ∷ zs) w) in
      let h' : IsRing Socket r (own s ys ++ x ∷ own s zs) = subst (λ (xs : List ℕ). IsRing Socket r xs) f (h s is) in
      elim (cases_eq u s) [
        | inl same ↦
            let z : times x (own s ys ++ own s zs) ≡ 0 =
            omega (arith, times-append x ys zs, times-append x (own s ys) (own s zs), times-filter-le (is_in nodes s) x ys, times-filter-le (is_in nodes s) x zs) in
            let g = ring_without Socket r (own s ys) x (own s zs) w' z h' in
            rw same
            (ring_by r'.nodes _ r' (own s ys ++ own s zs) _ refl (get_or-set_same sockets s r'.ends no_ends is)
            (in_same nodes r'.nodes s k.list (ys ++ zs) ∙ filter-append (is_in nodes s) ys zs) g)
        | inr ne ↦
            let y = without_at Socket r x (beside Socket r (own s ys) x (own s zs) w' h') in
            let q = socket_ring nodes sockets u in
            let iv : u < length sockets = omega (arith, length-set sockets s r'.ends) in
            let kq = keep_at r r' q.ends x y.keeping in
            let fo : own u (ys ++ x ∷ zs) ≡ own u (ys ++ zs) = filter_out nodes u x ys zs (λ a. ne (sym a ∙ e)) in
            let hq : IsRing Socket q (own u (ys ++ zs)) = subst (λ (xs : List ℕ). IsRing Socket q xs) fo (h u iv) in
            let z : times x (own u (ys ++ zs)) ≡ 0 = omega (arith, times-filter-le (is_in nodes u) x (ys ++ zs)) in
            ring_by r'.nodes _ (ring_of r'.nodes q.ends) (own u (ys ++ zs)) _ refl (get_or-set_other sockets s u r'.ends no_ends ne)
            (in_same nodes r'.nodes u k.list (ys ++ zs))
            (path_kept _ _ _ _ x kq None (own u (ys ++ zs)) None (none-some x) (none-some x) z hq)
      ]

  -- an index comes to the list of its socket
  pub rings_with : (order : List ℕ) (x : ℕ) (s : ℕ) → (node_at nodes x).list ≡ s → s < length sockets → AreWithin nodes order → times x order ≡ 0 → x < length nodes
      → AreRings nodes sockets order
      → AreRings (linked Socket x (socket_ring nodes sockets s)).nodes (set sockets s (linked Socket x (socket_ring nodes sockets s)).ends) (order ++ x ∷ [])
  rings_with order x s e is w t wx h u iu =
      let r = socket_ring nodes sockets s in
      let r' = linked Socket x r in
      let k = linked_kept Socket x r in
      let own = λ (v : ℕ) (xs : List ℕ). filter (is_in nodes v) xs in
      let w' : AreWithin nodes (own s order) = own_within nodes s order w in
      let z : times x (own s order) ≡ 0 = omega (arith, times-filter-le (is_in nodes s) x order) in
      elim (cases_eq u s) [
        | inl same ↦
            rw same
            (ring_by r'.nodes _ r' (own s order ++ x ∷ []) _ refl (get_or-set_same sockets s r'.ends no_ends is)
            (in_same nodes r'.nodes s k.list (order ++ x ∷ []) ∙ filter_in nodes s x order [] e) (ring_with Socket r (own s order) x w' z wx (h s is)))
        | inr ne ↦
            let y = with_at Socket r (own s order) x w' (h s is) z wx in
            let q = socket_ring nodes sockets u in
            let iv : u < length sockets = omega (arith, length-set sockets s r'.ends) in
            let far = others_far nodes r order x u s (λ a. ne a) t (h s is) in
            ring_by r'.nodes _ (ring_of r'.nodes q.ends) (own u order) _ refl (get_or-set_other sockets s u r'.ends no_ends ne)
            (in_same nodes r'.nodes u k.list (order ++ x ∷ []) ∙ (filter_out nodes u x order [] (λ a. ne (sym a ∙ e)) ∙ ap (λ (xs : List ℕ). own u xs) (append-nil order)))
            (path_on (next_in Socket q) (previous_in Socket q) _ _ None (own u order) None refl refl
            (λ k i. y.next_same (Some k) (far k i).0 (far k i).1) (λ k i. y.previous_same (Some k) (λ a. none-some k (sym a)) (far k i).1) (h u iv))
      ]
