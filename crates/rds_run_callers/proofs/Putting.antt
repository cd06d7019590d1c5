-- One place of a caller is put in the place of another.
use Rattle.std.proofs.Common.{◌≡◌, ◌≢◌, ◌⊎◌, ℕ, ◌≤◌, List, set, Some, slice_get, inl, inr, refl, sym, ap, subst, ◌∙◌, ⊎_elim, arith}
use Rattle.std.proofs.lemmas.Bool.{cases_eq}
use Rattle.std.proofs.lemmas.List.{length-set}
use Rattle.std.proofs.lemmas.Option.{same_Some, slice_get_within}
use Rattle.rds_model.specs.declared.order.Datagram.{Datagram}
use Rattle.rds_fmap.specs.Readers.{ReaderView}
use Rattle.rds_socket_parts.specs.PlaceLaws.{here, there}
use Rattle.rds_socket.specs.Holding.{Holding, Open}
use Rattle.rds_run_callers.specs.Places.{Place, Vacant, Bound, ArePlaces, HasKept, IsVacantPlace, PlaceKeeps, PlacesKeep, holding_of}
use Rattle.rds_run_callers.proofs.Keeping.{keeps_same}

-- what stands at a slot once another place was put
pub read : (places : List Place) (slot other : ℕ) (old new p : Place) → slice_get places slot ≡ Some old → slice_get (set places slot new) other ≡ Some p
    → ((other ≡ slot) × (p ≡ new)) ⊎ ((other ≢ slot) × (slice_get places other ≡ Some p))
read places slot other old new p was is = ⊎_elim
    (λ (e : other ≡ slot).
    inl (e, same_Some p new (sym is ∙ (ap (λ i. slice_get (set places slot new) i) e ∙ here places slot new (slice_get_within places slot old was)))))
    (λ (e : other ≢ slot). inr (e, sym (there places slot other new e) ∙ is))
    (cases_eq other slot)

module _ (places : List Place) (slot : ℕ) (old new : Place) (was : slice_get places slot ≡ Some old) where
  -- what has to be known of the new one
  pub record MayStand : Type 0 where
    pub number : (holding_of new).words.slot ≡ (holding_of old).words.slot
    pub kept : HasKept new
    pub port : (o q : Open ReaderView) (got more : List Datagram) (other : ℕ) → new ≡ Bound o got → slice_get places other ≡ Some (Bound q more) → o.port ≡ q.port → other ≡ slot
    pub from : IsVacantPlace new → IsVacantPlace old
    pub order : (other : ℕ) (h : Holding ReaderView) → slice_get places other ≡ Some (Vacant h) → other ≢ slot → other ≤ slot → IsVacantPlace new

  pub put_places : ArePlaces places → MayStand → ArePlaces (set places slot new)
  put_places a m = record {
    number = λ other p is. ⊎_elim
        (λ (t : (other ≡ slot) × (p ≡ new)). ap (λ (x : Place). (holding_of x).words.slot) t.1 ∙ (m.number ∙ (a.number slot old was ∙ sym t.0)))
        (λ (t : (other ≢ slot) × (slice_get places other ≡ Some p)). a.number other p t.1)
        (read places slot other old new p was is);
    kept = λ other p is. ⊎_elim
        (λ (t : (other ≡ slot) × (p ≡ new)). subst HasKept (sym t.1) m.kept)
        (λ (t : (other ≢ slot) × (slice_get places other ≡ Some p)). a.kept other p t.1)
        (read places slot other old new p was is);
    ports = λ i j o q got more at_i at_j same. ⊎_elim
        (λ (t : (i ≡ slot) × (Bound o got ≡ new)). ⊎_elim
        (λ (u : (j ≡ slot) × (Bound q more ≡ new)). t.0 ∙ sym u.0)
        (λ (u : (j ≢ slot) × (slice_get places j ≡ Some (Bound q more))). t.0 ∙ sym (m.port o q got more j (sym t.1) u.1 same))
        (read places slot j old new (Bound q more) was at_j))
        (λ (t : (i ≢ slot) × (slice_get places i ≡ Some (Bound o got))). ⊎_elim
        (λ (u : (j ≡ slot) × (Bound q more ≡ new)). m.port q o more got i (sym u.1) t.1 (sym same) ∙ sym u.0)
        (λ (u : (j ≢ slot) × (slice_get places j ≡ Some (Bound q more))). a.ports i j o q got more t.1 u.1 same)
        (read places slot j old new (Bound q more) was at_j))
        (read places slot i old new (Bound o got) was at_i);
    order = λ i j h p at_i at_j le. ⊎_elim
        (λ (t : (i ≡ slot) × (Vacant h ≡ new)).
        let v = m.from (h, sym t.1) in ⊎_elim
        (λ (u : (j ≡ slot) × (p ≡ new)). (h, u.1 ∙ sym t.1))
        (λ (u : (j ≢ slot) × (slice_get places j ≡ Some p)). a.order slot j v.0 p (was ∙ ap Some v.1) u.1 (let e = t.0 in omega arith))
        (read places slot j old new p was at_j))
        (λ (t : (i ≢ slot) × (slice_get places i ≡ Some (Vacant h))). ⊎_elim
        (λ (u : (j ≡ slot) × (p ≡ new)). subst IsVacantPlace (sym u.1) (m.order i h t.1 t.0 (let e = u.0 in omega arith)))
        (λ (u : (j ≢ slot) × (slice_get places j ≡ Some p)). a.order i j h p t.1 u.1 le)
        (read places slot j old new p was at_j))
        (read places slot i old new (Vacant h) was at_i);
  }

  pub put_keeps : PlaceKeeps (holding_of old) (holding_of new) → PlacesKeep places (set places slot new)
  put_keeps k = record {
    count = length-set places slot new;
    each = λ other p q stood stands. ⊎_elim
        (λ (t : (other ≡ slot) × (q ≡ new)).
        let is : old ≡ p = same_Some old p (sym was ∙ (ap (λ i. slice_get places i) (sym t.0) ∙ stood)) in
        subst (λ (x : Place). PlaceKeeps (holding_of p) (holding_of x)) (sym t.1) (subst (λ (x : Place). PlaceKeeps (holding_of x) (holding_of new)) is k))
        (λ (t : (other ≢ slot) × (slice_get places other ≡ Some q)).
        subst (λ (x : Place). PlaceKeeps (holding_of p) (holding_of x)) (same_Some p q (sym stood ∙ t.1)) (keeps_same (holding_of p)))
        (read places slot other old new q was stands);
  }

pub places_same : (places : List Place) → PlacesKeep places places
places_same places = record {
  count = refl;
  each = λ slot p q stood stands. subst (λ (x : Place). PlaceKeeps (holding_of p) (holding_of x)) (same_Some p q (sym stood ∙ stands)) (keeps_same (holding_of p));
}
