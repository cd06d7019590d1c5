-- The list of all and the free ones: what a linking and an unlinking on either side leave of them.
use Rattle.std.proofs.Common.{◌≡◌, ◌≤◌, ◌<◌, ◌+◌, inl, inr, ℕ, Option, Some, None, List, [], ◌∷◌, ◌++◌, length, arith, refl, sym, ap, ◌∙◌}
use Rattle.std.proofs.lemmas.Option.{same_Some, none-some}
use Rattle.rds_msgs_lists.specs.declared.node.Node.{Node}
use Rattle.rds_msgs_lists.specs.declared.node.Neighbours.{Neighbours}
use Rattle.rds_msgs_lists.specs.declared.node.Side.{Side}
use Rattle.rds_msgs_lists.specs.declared.node.Side.TheVariants.{Connection}
use Rattle.rds_msgs_lists.specs.Nodes.{Ring, IsWithin, node_at, neighbours, next_in, previous_in, unlinked, linked, ring_of}
use Rattle.rds_msgs_lists.specs.Lists.{times, Chain, IsRing}
use Rattle.rds_msgs_lists.proofs.Counts.{times-append}
use Rattle.rds_msgs_lists.proofs.Paths.{Without, With, never, path_on, path_without, path_with, path_split, path_start, path_first, path_end, path_last, chain_on, chain_kept}
use Rattle.rds_msgs_lists.proofs.Rings.{unlinked_without, linked_with}

-- each index of a list is that of a node
abbrev pub AreWithin : List Node → List ℕ → Type 0
AreWithin nodes xs = (k : ℕ) → 1 ≤ times k xs → k < length nodes

pub within_is : (o : Option ℕ) (nodes : List Node) (k : ℕ) → o ≡ Some k → k < length nodes → IsWithin o nodes
within_is o nodes k e h = rw e h

pub within_none : (o : Option ℕ) (nodes : List Node) → o ≡ None → IsWithin o nodes
within_none o nodes e = rw e tt

-- what stands beside one of a ring is a node's index, and has it as its neighbour
pub record Beside (side : Side) (r : Ring) (x : ℕ) : Type 0 where
  pub within_previous : IsWithin (previous_in side r (Some x)) r.nodes
  pub within_next : IsWithin (next_in side r (Some x)) r.nodes
  pub next_back : next_in side r (previous_in side r (Some x)) ≡ Some x
  pub previous_back : previous_in side r (next_in side r (Some x)) ≡ Some x

pub beside : (side : Side) (r : Ring) (ys : List ℕ) (x : ℕ) (zs : List ℕ) → AreWithin r.nodes (ys ++ x ∷ zs) → IsRing side r (ys ++ x ∷ zs) → Beside side r x
beside side r ys x zs w h =
    let s = path_split (next_in side r) (previous_in side r) None ys x zs None h in
    record {
      within_previous = elim (path_last (next_in side r) (previous_in side r) None ys (Some x) s.0) [
        | inl e ↦ within_none _ r.nodes e
        | inr f ↦ within_is _ r.nodes f.0 f.1 (w f.0 (omega (arith, times-append f.0 ys (x ∷ zs))))
      ];
      within_next = elim (path_first (next_in side r) (previous_in side r) (Some x) zs None s.1) [
        | inl e ↦ within_none _ r.nodes e
        | inr f ↦ within_is _ r.nodes f.0 f.1 (w f.0 (omega (arith, times-append f.0 ys (x ∷ zs))))
      ];
      next_back = path_end (next_in side r) (previous_in side r) None ys (Some x) s.0;
      previous_back = path_start (next_in side r) (previous_in side r) (Some x) zs None s.1;
    }

pub last_within : (side : Side) (r : Ring) (xs : List ℕ) → AreWithin r.nodes xs → IsRing side r xs → IsWithin (previous_in side r None) r.nodes
last_within side r xs w h =
    elim (path_last (next_in side r) (previous_in side r) None xs None h) [
      | inl e ↦ within_none _ r.nodes e
      | inr f ↦ within_is _ r.nodes f.0 f.1 (w f.0 f.2)
    ]

-- one that is not on a ring is not its last
pub not_last : (side : Side) (r : Ring) (xs : List ℕ) (x : ℕ) → times x xs ≡ 0 → IsRing side r xs → previous_in side r None ≡ Some x → ⊥
not_last side r xs x t h e =
    elim (path_last (next_in side r) (previous_in side r) None xs None h) [
      | inl n ↦ never x _ n e
      | inr f ↦
          let same : f.0 ≡ x = same_Some f.0 x (sym f.1 ∙ e) in
          let i : 1 ≤ times x xs = rw (← same) f.2 in
          absurd (omega arith)
    ]

pub without_at : (side : Side) (r : Ring) (x : ℕ) → Beside side r x → Without (next_in side r) (previous_in side r) (next_in side (unlinked side x r)) (previous_in side (unlinked side x r)) x
without_at side r x b = unlinked_without side x r b.within_previous b.within_next b.next_back b.previous_back

pub with_at : (side : Side) (r : Ring) (xs : List ℕ) (x : ℕ) → AreWithin r.nodes xs → IsRing side r xs → times x xs ≡ 0 → x < length r.nodes
    → With (next_in side r) (previous_in side r) (next_in side (linked side x r)) (previous_in side (linked side x r)) x
with_at side r xs x w h t wx = linked_with side x r wx (last_within side r xs w h) (not_last side r xs x t h)

-- a ring without one of it, and with one at its end
pub ring_without : (side : Side) (r : Ring) (ys : List ℕ) (x : ℕ) (zs : List ℕ) → AreWithin r.nodes (ys ++ x ∷ zs) → times x (ys ++ zs) ≡ 0
    → IsRing side r (ys ++ x ∷ zs) → IsRing side (unlinked side x r) (ys ++ zs)
ring_without side r ys x zs w t h =
    let a : times x ys ≡ 0 = omega (arith, times-append x ys zs) in
    let b : times x zs ≡ 0 = omega (arith, times-append x ys zs) in
    path_without _ _ _ _ x (without_at side r x (beside side r ys x zs w h)) None ys zs None (none-some x) (none-some x) a b h

pub ring_with : (side : Side) (r : Ring) (xs : List ℕ) (x : ℕ) → AreWithin r.nodes xs → times x xs ≡ 0 → x < length r.nodes
    → IsRing side r xs → IsRing side (linked side x r) (xs ++ x ∷ [])
ring_with side r xs x w t wx h =
    path_with _ _ _ _ x (with_at side r xs x w h t wx) (path_end (next_in side r) (previous_in side r) None xs None h) None xs (none-some x) t h

-- the free ones stay where one that is not free leaves the list of all, or comes to it
pub frees_without : (r : Ring) (x : ℕ) (free : Option ℕ) (frees : List ℕ) → Beside Connection r x → times x frees ≡ 0
    → Chain (next_in Connection r) free frees → Chain (next_in Connection (unlinked Connection x r)) free frees
frees_without r x free frees b t h = chain_kept _ _ x (without_at Connection r x b).keeping.next_same free frees t h

pub frees_with : (r : Ring) (xs : List ℕ) (x : ℕ) (free : Option ℕ) (frees : List ℕ) → AreWithin r.nodes xs → IsRing Connection r xs → times x xs ≡ 0 → x < length r.nodes
    → times x frees ≡ 0 → ((k : ℕ) → times k xs + times k frees ≤ 1)
    → Chain (next_in Connection r) free frees → Chain (next_in Connection (linked Connection x r)) free frees
frees_with r xs x free frees w h t wx tf once c =
    let y = with_at Connection r xs x w h t wx in
    chain_on (next_in Connection r) (next_in Connection (linked Connection x r)) free frees
    (λ k i.
    y.next_same (Some k)
    (λ e. not_last Connection r xs k (let o = once k in omega arith) h (sym e))
    (λ e. let same : k ≡ x = same_Some k x e in let z : 1 ≤ times x frees = rw (← same) i in absurd (omega arith)))
    c

-- a change on the lists of sockets leaves the list of all and the free ones
module _ (nodes nodes' : List Node) (ends : Neighbours) (same : (k : ℕ) → neighbours Connection (node_at nodes' k) ≡ neighbours Connection (node_at nodes k)) where
  pub all_same : (xs : List ℕ) → IsRing Connection (ring_of nodes ends) xs → IsRing Connection (ring_of nodes' ends) xs
  all_same xs h = path_on _ _ _ _ None xs None refl refl (λ k i. ap (λ (b : Neighbours). b.next) (same k)) (λ k i. ap (λ (b : Neighbours). b.previous) (same k)) h

  pub frees_same : (free : Option ℕ) (frees : List ℕ) → Chain (next_in Connection (ring_of nodes ends)) free frees → Chain (next_in Connection (ring_of nodes' ends)) free frees
  frees_same free frees h = chain_on (next_in Connection (ring_of nodes ends)) (next_in Connection (ring_of nodes' ends)) free frees (λ k i. ap (λ (b : Neighbours). b.next) (same k)) h
