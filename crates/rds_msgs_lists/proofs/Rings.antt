-- What each write of a ring leaves, and what an unlinking and a linking leave of it.
use Rattle.std.proofs.Common.{◌≡◌, ◌<◌, ◌⊎◌, inl, inr, ℕ, zero, suc, Option, Some, None, List, [], ◌∷◌, length, arith, refl, sym, ap, ◌∙◌, set, length-set, get_or-set_same, get_or-set_other}
use Rattle.std.proofs.lemmas.Option.{same_Some, none-some}
use Rattle.std.proofs.lemmas.Bool.{cases_eq}
use Rattle.rds_msgs_lists.specs.declared.node.Node.{Node}
use Rattle.rds_msgs_lists.specs.declared.node.Neighbours.{Neighbours}
use Rattle.rds_msgs_lists.specs.declared.node.Side.{Side}
use Rattle.rds_msgs_lists.specs.declared.node.Side.TheVariants.{Connection, Socket}
use Rattle.rds_msgs_lists.specs.Nodes.{Ring, IsWithin, no_node, node_at, neighbours, with_neighbours, next_in, previous_in, ring_node, ring_next, ring_previous, unlinked, linked}
use Rattle.rds_msgs_lists.proofs.Paths.{Without, With}

-- the other side
abbrev pub flip : Side → Side
flip Connection = Socket
flip Socket = Connection

pub neighbours_with : (side : Side) (by : Neighbours) (n : Node) → neighbours side (with_neighbours side by n) ≡ by
neighbours_with Connection by n = refl
neighbours_with Socket by n = refl

pub others_with : (side : Side) (by : Neighbours) (n : Node) → neighbours (flip side) (with_neighbours side by n) ≡ neighbours (flip side) n
others_with Connection by n = refl
others_with Socket by n = refl

pub list_with : (side : Side) (by : Neighbours) (n : Node) → (with_neighbours side by n).list ≡ n.list
list_with Connection by n = refl
list_with Socket by n = refl

-- a write of a node keeps what the new node has in common with it
pub set_keeps : {X : Type 0} (f : Node → X) (nodes : List Node) (j : ℕ) (n : Node) → f n ≡ f (node_at nodes j) → (k : ℕ) → f (node_at (set nodes j n) k) ≡ f (node_at nodes k)
set_keeps f [] j n e k = refl
set_keeps f (m ∷ nodes) zero n e zero = e
set_keeps f (m ∷ nodes) zero n e (suc k) = refl
set_keeps f (m ∷ nodes) (suc j) n e zero = refl
set_keeps f (m ∷ nodes) (suc j) n e (suc k) = set_keeps f nodes j n e k

-- two indexes or nones are equal or not
pub cases_link : (o a : Option ℕ) → (o ≡ a) ⊎ (o ≡ a → ⊥)
cases_link None None = inl refl
cases_link None (Some k) = inr (none-some k)
cases_link (Some j) None = inr (λ e. none-some j (sym e))
cases_link (Some j) (Some k) = elim (cases_eq j k) [ inl e ↦ inl (ap Some e) | inr ne ↦ inr (λ e. ne (same_Some j k e)) ]

-- A ring after a write has what it had, but for the neighbours of some on the list of a side.
pub record Kept (side : Side) (r r' : Ring) : Type 0 where
  pub len : length r'.nodes ≡ length r.nodes
  pub list : (k : ℕ) → (node_at r'.nodes k).list ≡ (node_at r.nodes k).list
  pub others : (k : ℕ) → neighbours (flip side) (node_at r'.nodes k) ≡ neighbours (flip side) (node_at r.nodes k)

pub kept_on : (side : Side) (r s t : Ring) → Kept side r s → Kept side s t → Kept side r t
kept_on side r s t a b = record { len = b.len ∙ a.len; list = λ k. b.list k ∙ a.list k; others = λ k. b.others k ∙ a.others k }

pub kept_node : (side : Side) (k : ℕ) (by : Neighbours) (r : Ring) → Kept side r (ring_node side k by r)
kept_node side k by r = record {
  len = length-set r.nodes k _;
  list = set_keeps (λ (n : Node). n.list) r.nodes k _ (list_with side by (node_at r.nodes k));
  others = set_keeps (λ (n : Node). neighbours (flip side) n) r.nodes k _ (others_with side by (node_at r.nodes k));
}

pub kept_next : (side : Side) (at v : Option ℕ) (r : Ring) → Kept side r (ring_next side at v r)
kept_next side None v r = record { len = refl; list = λ k. refl; others = λ k. refl }
kept_next side (Some j) v r = kept_node side j _ r

pub kept_previous : (side : Side) (at v : Option ℕ) (r : Ring) → Kept side r (ring_previous side at v r)
kept_previous side None v r = record { len = refl; list = λ k. refl; others = λ k. refl }
kept_previous side (Some j) v r = kept_node side j _ r

module _ (side : Side) (k : ℕ) (by : Neighbours) (r : Ring) where
  pub node_same : k < length r.nodes → neighbours side (node_at (ring_node side k by r).nodes k) ≡ by
  node_same h = rw (get_or-set_same r.nodes k (with_neighbours side by (node_at r.nodes k)) no_node h) (neighbours_with side by (node_at r.nodes k))

  pub node_next_other : (o : Option ℕ) → (o ≡ Some k → ⊥) → next_in side (ring_node side k by r) o ≡ next_in side r o
  node_next_other None h = refl
  node_next_other (Some j) h =
      ap (λ (n : Node). (neighbours side n).next) (get_or-set_other r.nodes k j (with_neighbours side by (node_at r.nodes k)) no_node (λ e. h (ap Some e)))

  pub node_previous_other : (o : Option ℕ) → (o ≡ Some k → ⊥) → previous_in side (ring_node side k by r) o ≡ previous_in side r o
  node_previous_other None h = refl
  node_previous_other (Some j) h =
      ap (λ (n : Node). (neighbours side n).previous) (get_or-set_other r.nodes k j (with_neighbours side by (node_at r.nodes k)) no_node (λ e. h (ap Some e)))

-- a write of what stands behind
pub next_same : (side : Side) (at v : Option ℕ) (r : Ring) → IsWithin at r.nodes → next_in side (ring_next side at v r) at ≡ v
next_same side None v r h = refl
next_same side (Some j) v r h = ap (λ (b : Neighbours). b.next) (node_same side j _ r h)

pub next_other : (side : Side) (at v : Option ℕ) (r : Ring) (o : Option ℕ) → (o ≡ at → ⊥) → next_in side (ring_next side at v r) o ≡ next_in side r o
next_other side None v r None h = absurd (h refl)
next_other side None v r (Some k) h = refl
next_other side (Some j) v r o h = node_next_other side j _ r o h

pub next_previous : (side : Side) (at v : Option ℕ) (r : Ring) (o : Option ℕ) → previous_in side (ring_next side at v r) o ≡ previous_in side r o
next_previous side None v r None = refl
next_previous side None v r (Some k) = refl
next_previous side (Some j) v r None = refl
next_previous side (Some j) v r (Some k) =
    set_keeps (λ (n : Node). (neighbours side n).previous) r.nodes j _ (ap (λ (b : Neighbours). b.previous) (neighbours_with side _ (node_at r.nodes j))) k

-- a write of what stands before
pub previous_same : (side : Side) (at v : Option ℕ) (r : Ring) → IsWithin at r.nodes → previous_in side (ring_previous side at v r) at ≡ v
previous_same side None v r h = refl
previous_same side (Some j) v r h = ap (λ (b : Neighbours). b.previous) (node_same side j _ r h)

pub previous_other : (side : Side) (at v : Option ℕ) (r : Ring) (o : Option ℕ) → (o ≡ at → ⊥) → previous_in side (ring_previous side at v r) o ≡ previous_in side r o
previous_other side None v r None h = absurd (h refl)
previous_other side None v r (Some k) h = refl
previous_other side (Some j) v r o h = node_previous_other side j _ r o h

pub previous_next : (side : Side) (at v : Option ℕ) (r : Ring) (o : Option ℕ) → next_in side (ring_previous side at v r) o ≡ next_in side r o
previous_next side None v r None = refl
previous_next side None v r (Some k) = refl
previous_next side (Some j) v r None = refl
previous_next side (Some j) v r (Some k) =
    set_keeps (λ (n : Node). (neighbours side n).next) r.nodes j _ (ap (λ (b : Neighbours). b.next) (neighbours_with side _ (node_at r.nodes j))) k

pub within_by : (o : Option ℕ) (r r' : Ring) → length r'.nodes ≡ length r.nodes → IsWithin o r.nodes → IsWithin o r'.nodes
within_by None r r' e h = h
within_by (Some k) r r' e h = omega arith

-- the ring without x, whose neighbours agree that it stands between them
pub unlinked_kept : (side : Side) (x : ℕ) (r : Ring) → Kept side r (unlinked side x r)
unfolding unlinked
unlinked_kept side x r =
    kept_on side r _ _ (kept_next side (previous_in side r (Some x)) (next_in side r (Some x)) r)
    (kept_previous side (next_in side r (Some x)) (previous_in side r (Some x)) _)

pub unlinked_without : (side : Side) (x : ℕ) (r : Ring) → IsWithin (previous_in side r (Some x)) r.nodes → IsWithin (next_in side r (Some x)) r.nodes
    → next_in side r (previous_in side r (Some x)) ≡ Some x → previous_in side r (next_in side r (Some x)) ≡ Some x
    → Without (next_in side r) (previous_in side r) (next_in side (unlinked side x r)) (previous_in side (unlinked side x r)) x
unfolding unlinked
unlinked_without side x r wp wn hn hp =
    let b = previous_in side r (Some x) in
    let a = next_in side r (Some x) in
    let s = ring_next side b a r in
    record {
      keeping = record {
        next_same = λ o h. previous_next side a b s o ∙ next_other side b a r o (λ e. h (ap (next_in side r) e ∙ hn));
        previous_same = λ o h. previous_other side a b s o (λ e. h (ap (previous_in side r) e ∙ hp)) ∙ next_previous side b a r o;
      };
      next_joined = previous_next side a b s b ∙ next_same side b a r wp;
      previous_joined = previous_same side a b s (within_by a r s (kept_next side b a r).len wn);
    }

-- the ring with x at its end
pub linked_kept : (side : Side) (x : ℕ) (r : Ring) → Kept side r (linked side x r)
unfolding linked
linked_kept side x r =
    kept_on side r _ _ (kept_next side (previous_in side r None) (Some x) r)
    (kept_on side _ _ _ (kept_previous side None (Some x) (ring_next side (previous_in side r None) (Some x) r)) (kept_node side x _ _))

pub linked_with : (side : Side) (x : ℕ) (r : Ring) → x < length r.nodes → IsWithin (previous_in side r None) r.nodes → (previous_in side r None ≡ Some x → ⊥)
    → With (next_in side r) (previous_in side r) (next_in side (linked side x r)) (previous_in side (linked side x r)) x
unfolding linked
linked_with side x r wx wl ne =
    let l = previous_in side r None in
    let s = ring_next side l (Some x) r in
    let t = ring_previous side None (Some x) s in
    let by : Neighbours = record { next = None; previous = l } in
    let len : length t.nodes ≡ length r.nodes = (kept_next side l (Some x) r).len in
    let wt : x < length t.nodes = omega arith in
    record {
      next_same = λ o ho hx. node_next_other side x by t o hx ∙ (previous_next side None (Some x) s o ∙ next_other side l (Some x) r o ho);
      previous_same = λ o ho hx. node_previous_other side x by t o hx ∙ (previous_other side None (Some x) s o ho ∙ next_previous side l (Some x) r o);
      next_last = node_next_other side x by t l ne ∙ (previous_next side None (Some x) s l ∙ next_same side l (Some x) r wl);
      next_new = ap (λ (b : Neighbours). b.next) (node_same side x by t wt);
      previous_new = ap (λ (b : Neighbours). b.previous) (node_same side x by t wt);
      previous_end = refl;
    }

-- what is left of a ring, where it is known by an equation
pub unlinked_is : (side : Side) (x : ℕ) (r r' : Ring) → r' ≡ unlinked side x r → Kept side r r'
unlinked_is side x r r' e = rw e (unlinked_kept side x r)

pub linked_is : (side : Side) (x : ℕ) (r r' : Ring) → r' ≡ linked side x r → Kept side r r'
linked_is side x r r' e = rw e (linked_kept side x r)

pub owned_then : (side : Side) (r r' : Ring) → Kept side r r' → (k n : ℕ) → (node_at r.nodes k).list < n → (node_at r'.nodes k).list < n
owned_then side r r' h k n i = rw (h.list k) i

pub within_then : (side : Side) (r r' : Ring) → Kept side r r' → (k : ℕ) → k < length r.nodes → k < length r'.nodes
within_then side r r' h k i = let e = h.len in omega arith

pub link_then : (side : Side) (r r' : Ring) → Kept side r r' → (o : Option ℕ) → IsWithin o r.nodes → IsWithin o r'.nodes
link_then side r r' h o i = within_by o r r' h.len i

pub next_then : (r r' : Ring) → Kept Connection r r' → (k : ℕ) → IsWithin (node_at r.nodes k).socket.next r.nodes → IsWithin (node_at r'.nodes k).socket.next r'.nodes
next_then r r' h k i = rw (h.others k) (within_by (node_at r.nodes k).socket.next r r' h.len i)

pub previous_then : (r r' : Ring) → Kept Connection r r' → (k : ℕ) → IsWithin (node_at r.nodes k).socket.previous r.nodes → IsWithin (node_at r'.nodes k).socket.previous r'.nodes
previous_then r r' h k i = rw (h.others k) (within_by (node_at r.nodes k).socket.previous r r' h.len i)
