-- The slots as they are held, and as contracts see them.
use Rattle.std.proofs.Common.{◌≡◌, ℕ, zero, suc, List, [], ◌∷◌, length, map, set, Option, Some, None, slice_get, refl, sym, ap, subst, ◌∙◌, arith}
use Rattle.std.proofs.lemmas.List.{length-map, length-set, map-set}
use Rattle.std.proofs.lemmas.Option.{same_Some, slice_get-map}
use Rattle.std.specs.Option.{option_map}
use Rattle.rds_run_callers.specs.Places.{Place, ArePlaces, PlaceKeeps, PlacesKeep, holding_of, somes}
use Rattle.rds_run_callers.specs.States.{shown, shown_all, NoneAway, AreSlots}
use Rattle.rds_run_callers.specs.declared.state.State.{State}
use Rattle.rds_run_callers.specs.declared.state.State.TheVariants as state
use Rattle.rds_run_callers.proofs.Putting.{MayStand, put_places, put_keeps}

pub somes_some : {A : Type 0} (l : List A) → somes (map Some l) ≡ l
somes_some [] = refl
somes_some (x ∷ l) = ap (λ r. x ∷ r) (somes_some l)

pub set_twice : {A : Type 0} (l : List A) (i : ℕ) (x y : A) → set (set l i x) i y ≡ set l i y
set_twice [] i x y = refl
set_twice (z ∷ l) zero x y = refl
set_twice (z ∷ l) (suc i) x y = ap (λ r. z ∷ r) (set_twice l i x y)

pub set_back : {A : Type 0} (l : List A) (i : ℕ) (x y : A) → slice_get l i ≡ Some x → set (set l i y) i x ≡ l
set_back [] i x y e = refl
set_back (z ∷ l) zero x y e = ap (λ a. a ∷ l) (sym (same_Some z x e))
set_back (z ∷ l) (suc i) x y e = ap (λ r. z ∷ r) (set_back l i x y e)

-- what was taken out of a slot came back as another
pub put_over : (old away new : List State) (slot : ℕ) (y : State) → away ≡ set old slot state.Away → new ≡ set away slot y → new ≡ set old slot y
put_over old away new slot y took put = put ∙ (ap (λ (l : List State). set l slot y) took ∙ set_twice old slot state.Away y)

-- it came back as it was
pub put_same : (old away new : List State) (slot : ℕ) (x y : State) → slice_get old slot ≡ Some x → away ≡ set old slot state.Away → new ≡ set away slot y → y ≡ x → new ≡ old
put_same old away new slot x y was took put same = put ∙ ((λ i. set (took i) slot (same i)) ∙ set_back old slot x state.Away was)

-- what is there of an option whose values are wrapped
unwrapped : {A : Type 0} (g : Option A) (o : Option A) → option_map Some g ≡ Some o → g ≡ o
unwrapped (Some a) o e = same_Some (Some a) o e
unwrapped None o e = absurd (cc)

pub mapped : {A B : Type 0} (f : A → B) (g : Option A) (b : B) → option_map f g ≡ Some b → (a : A) × (g ≡ Some a) × (f a ≡ b)
mapped f (Some a) b e = (a, refl, same_Some (f a) b e)
mapped f None b e = absurd (cc)

module _ (states : List State) (whole : NoneAway states) where
  pub count_seen : length (shown_all states) ≡ length states
  count_seen = sym (length-map (shown_all states) Some) ∙ (ap length (sym whole) ∙ length-map states shown)

  pub read_seen : (slot : ℕ) (x : State) → slice_get states slot ≡ Some x → slice_get (shown_all states) slot ≡ shown x
  read_seen slot x at = unwrapped (slice_get (shown_all states) slot) (shown x)
      (sym (slice_get-map Some (shown_all states) slot) ∙ (ap (λ l. slice_get l slot) (sym whole) ∙ (slice_get-map shown states slot ∙ ap (option_map shown) at)))

  pub find_seen : (slot : ℕ) (p : Place) → slice_get (shown_all states) slot ≡ Some p → (x : State) × (slice_get states slot ≡ Some x) × (shown x ≡ Some p)
  find_seen slot p at = mapped shown (slice_get states slot) (Some p)
      (sym (slice_get-map shown states slot) ∙ (ap (λ l. slice_get l slot) whole ∙ (slice_get-map Some (shown_all states) slot ∙ ap (option_map Some) at)))

  module _ (slot : ℕ) (y : State) (q : Place) (is : shown y ≡ Some q) where
    put_shown : map shown (set states slot y) ≡ map Some (set (shown_all states) slot q)
    put_shown = map-set shown states slot y ∙ (ap (λ l. set l slot (shown y)) whole ∙ (ap (λ o. set (map Some (shown_all states)) slot o) is ∙ sym (map-set Some (shown_all states) slot q)))

    pub put_seen : shown_all (set states slot y) ≡ set (shown_all states) slot q
    put_seen = ap somes put_shown ∙ somes_some (set (shown_all states) slot q)

    pub put_whole : NoneAway (set states slot y)
    put_whole = put_shown ∙ ap (map Some) (sym put_seen)

  -- what a slot shows
  pub here_seen : (slot : ℕ) (x : State) → slice_get states slot ≡ Some x → (p : Place) × (shown x ≡ Some p) × (slice_get (shown_all states) slot ≡ Some p)
  here_seen slot x at =
      let e : option_map Some (slice_get (shown_all states) slot) ≡ Some (shown x) =
      sym (slice_get-map Some (shown_all states) slot) ∙ (ap (λ l. slice_get l slot) (sym whole) ∙ (slice_get-map shown states slot ∙ ap (option_map shown) at)) in
      let m = mapped Some (slice_get (shown_all states) slot) (shown x) e in
      (m.0, sym m.2, m.1)

-- a slot was changed, and what contracts see of it
pub record IsChanged (old new : List State) (slot : ℕ) (p q : Place) : Type 0 where
  pub sound : AreSlots new
  pub was : slice_get (shown_all old) slot ≡ Some p
  pub is : shown_all new ≡ set (shown_all old) slot q

pub change_state : (old new : List State) (slot : ℕ) (x y : State) (p q : Place) → AreSlots old → slice_get old slot ≡ Some x → shown x ≡ Some p → shown y ≡ Some q
    → new ≡ set old slot y → ((was : slice_get (shown_all old) slot ≡ Some p) → MayStand (shown_all old) slot p q was) → IsChanged old new slot p q
change_state old new slot x y p q s at shows shows_new made may =
    let was : slice_get (shown_all old) slot ≡ Some p = read_seen old s.whole slot x at ∙ shows in
    let is : shown_all (set old slot y) ≡ set (shown_all old) slot q = put_seen old s.whole slot y q shows_new in
    subst (λ (l : List State). IsChanged old l slot p q) (sym made) (record {
      sound = record {
        whole = put_whole old s.whole slot y q shows_new;
        count = let c = s.count in let e = length-set old slot y in omega arith;
        places = subst (λ (l : List Place). ArePlaces l) (sym is) (put_places (shown_all old) slot p q was s.places (may was));
      };
      was = was;
      is = is;
    })

-- the slot is the same
pub record IsPut (old new : List State) (slot : ℕ) (p q : Place) : Type 0 where
  pub changed : IsChanged old new slot p q
  pub keeps : PlacesKeep (shown_all old) (shown_all new)

pub put_state : (old new : List State) (slot : ℕ) (x y : State) (p q : Place) → AreSlots old → slice_get old slot ≡ Some x → shown x ≡ Some p → shown y ≡ Some q
    → new ≡ set old slot y → PlaceKeeps (holding_of p) (holding_of q) → ((was : slice_get (shown_all old) slot ≡ Some p) → MayStand (shown_all old) slot p q was)
    → IsPut old new slot p q
put_state old new slot x y p q s at shows shows_new made keeps may =
    let c = change_state old new slot x y p q s at shows shows_new made may in
    record { changed = c; keeps = subst (λ (l : List Place). PlacesKeep (shown_all old) l) (sym c.is) (put_keeps (shown_all old) slot p q c.was keeps) }
