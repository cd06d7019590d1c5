-- Laws, each proved: proofs in other crates use them. Nothing here has to be believed.
-- One route of a list is changed in its place.
use Rattle.std.proofs.Common.{◌≡◌, ◌≢◌, ℕ, zero, suc, ◌+◌, ◌<◌, List, [], ◌∷◌, length, map, set, get_or, Option, Some, None, slice_get, refl, sym, ap, subst, ◌∙◌, arith}
use Rattle.std.proofs.lemmas.Option.{slice_get-get_or, same_Some}
use Rattle.std.proofs.lemmas.List.{map-set, length-set}

-- an element that is set
pub here : {X : Type 0} (xs : List X) (i : ℕ) (y : X) → i < length xs → slice_get (set xs i y) i ≡ Some y
here [] i y l = absurd (omega arith)
here (x ∷ xs) zero y l = refl
here (x ∷ xs) (suc i) y l = here xs i y (omega arith)

-- another one
pub there : {X : Type 0} (xs : List X) (i j : ℕ) (y : X) → j ≢ i → slice_get (set xs i y) j ≡ slice_get xs j
there [] i j y ne = refl
there (x ∷ xs) zero zero y ne = absurd (ne refl)
there (x ∷ xs) zero (suc j) y ne = refl
there (x ∷ xs) (suc i) zero y ne = refl
there (x ∷ xs) (suc i) (suc j) y ne = there xs i j y (λ e. ne (ap suc e))

-- the element that stands there already
pub set_same : {X : Type 0} (xs : List X) (i : ℕ) (y : X) → slice_get xs i ≡ Some y → set xs i y ≡ xs
set_same [] i y e = refl
set_same (x ∷ xs) zero y e = ap (λ z. z ∷ xs) (sym (same_Some x y e))
set_same (x ∷ xs) (suc i) y e = ap (λ l. x ∷ l) (set_same xs i y e)

-- what is read by an index stands there
pub stands : {X : Type 0} (xs : List X) (i : ℕ) (x : X) → i < length xs → x ≡ get_or xs i x → slice_get xs i ≡ Some x
stands xs i x l e = slice_get-get_or xs i x l ∙ ap Some (sym e)

-- a function of each element that the change leaves as it was
pub map_same : {X Y : Type 0} (f : X → Y) (xs : List X) (i : ℕ) (x y : X) → slice_get xs i ≡ Some x → f y ≡ f x → map f (set xs i y) ≡ map f xs
map_same f [] i x y e same = refl
map_same f (z ∷ xs) zero x y e same = ap (λ w. w ∷ map f xs) (same ∙ ap f (sym (same_Some z x e)))
map_same f (z ∷ xs) (suc i) x y e same = ap (λ l. f z ∷ l) (map_same f xs i x y e same)
