-- What stands at a place of a list.
use Rattle.std.proofs.Common.{◌≡◌, ◌≢◌, ◌<◌, ℕ, zero, suc, All, List, [], ◌∷◌, Some, get_or, length, map, option_map, set, slice_get, refl, sym, ap, subst, ◌∙◌, arith}
use Rattle.std.specs.List.{AllPairs}
use Rattle.std.proofs.lemmas.Option.{get_or_from_slice_get, same_Some, slice_get-get_or, slice_get-map, slice_get_within}
use Rattle.rds_run_callers.specs.Places.{Bound, Ended, Place, Spare, Vacant, holding_of, spared}
use Rattle.rds_run_settling.specs.Tied.{holdings}

-- what stands at a place of a mapped list is made of what stands there
pub at_map : {A B : Type 0} (f : A → B) (xs : List A) (i : ℕ) (b : B) → slice_get (map f xs) i ≡ Some b → (a : A) × (slice_get xs i ≡ Some a) × (b ≡ f a)
at_map f [] i b at = absurd (cc)
at_map f (x ∷ xs) zero b at = (x, refl, sym (same_Some (f x) b at))
at_map f (x ∷ xs) (suc i) b at = at_map f xs i b at

-- what stands at a place of a list that is as long stands at that of the other
pub stood_at : {A B : Type 0} (xs : List A) (ys : List B) (i : ℕ) (y : B) → length ys ≡ length xs → slice_get ys i ≡ Some y → (x : A) × (slice_get xs i ≡ Some x)
stood_at [] [] i y same at = absurd (cc)
stood_at [] (z ∷ ys) i y same at = absurd (omega (arith, same))
stood_at (x ∷ xs) [] i y same at = absurd (omega (arith, same))
stood_at (x ∷ xs) (z ∷ ys) zero y same at = (x, refl)
stood_at (x ∷ xs) (z ∷ ys) (suc i) y same at = stood_at xs ys i y (omega (arith, same)) at

-- the slot at a place, as the holding there
pub held_at : (places : List Place) (slot : ℕ) (p : Place) → slice_get places slot ≡ Some p → slice_get (holdings places) slot ≡ Some (holding_of p)
held_at places slot p at = slice_get-map holding_of places slot ∙ ap (option_map holding_of) at

-- a slot that is given up holds what it held
pub spared_holds : (p : Place) → holding_of (spared p) ≡ holding_of p
spared_holds (Vacant h) = refl
spared_holds (Bound o got) = refl
spared_holds (Ended port h got) = refl
spared_holds (Spare h) = refl

-- there is something at each place within a list
pub some_at : {T : Type 0} (xs : List T) (i : ℕ) → i < length xs → (x : T) × (slice_get xs i ≡ Some x)
some_at [] i within = absurd (omega (arith, within))
some_at (x ∷ xs) zero within = (x, refl)
some_at (x ∷ xs) (suc i) within = some_at xs i (omega (arith, within))

-- one thing stands at a place
pub one_at : {T : Type 0} (xs : List T) (i : ℕ) (x y : T) → slice_get xs i ≡ Some x → slice_get xs i ≡ Some y → x ≡ y
one_at xs i x y first second = same_Some x y (sym first ∙ second)

-- what holds at each place of a list holds of all of it
pub all_from : {T : Type 0} (P : T → Type 0) (xs : List T) → ((i : ℕ) (x : T) → slice_get xs i ≡ Some x → P x) → All P xs
all_from P xs each = λ i d within. each i (get_or xs i d) (slice_get-get_or xs i d within)

pub all_at : {T : Type 0} (P : T → Type 0) (xs : List T) (i : ℕ) (x : T) → All P xs → slice_get xs i ≡ Some x → P x
all_at P xs i x all at = subst P (get_or_from_slice_get xs i x x at) (all i x (slice_get_within xs i x at))

pub pairs_from : {T : Type 0} (R : T → T → Type 0) (xs : List T) →
    ((i j : ℕ) (x y : T) → i < j → slice_get xs i ≡ Some x → slice_get xs j ≡ Some y → R x y) → AllPairs R xs
pairs_from R xs each = λ i j d before within.
    each i j (get_or xs i d) (get_or xs j d) before (slice_get-get_or xs i d (omega (arith, before, within))) (slice_get-get_or xs j d within)

-- what was set stands at its place, and at another place what stood there
pub at_set : {T : Type 0} (xs : List T) (i : ℕ) (x : T) → i < length xs → slice_get (set xs i x) i ≡ Some x
at_set [] i x within = absurd (omega (arith, within))
at_set (y ∷ xs) zero x within = refl
at_set (y ∷ xs) (suc i) x within = at_set xs i x (omega (arith, within))

pub beside_set : {T : Type 0} (xs : List T) (i j : ℕ) (x : T) → j ≢ i → slice_get (set xs i x) j ≡ slice_get xs j
beside_set [] i j x other = refl
beside_set (y ∷ xs) zero zero x other = absurd (other refl)
beside_set (y ∷ xs) zero (suc j) x other = refl
beside_set (y ∷ xs) (suc i) zero x other = refl
beside_set (y ∷ xs) (suc i) (suc j) x other = beside_set xs i j x (λ same. other (ap suc same))
