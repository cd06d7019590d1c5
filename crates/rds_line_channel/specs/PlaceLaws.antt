-- Laws, each proved: proofs in other crates use them. Nothing here has to be believed.
-- What stands at the places of a list of which one place is set.
use Rattle.std.proofs.Common.{◌≡◌, ◌≢◌, ℕ, zero, suc, ◌<◌, List, [], ◌∷◌, length, set, map, Some, slice_get, refl, sym, ap, ◌∙◌, arith}
use Rattle.std.proofs.lemmas.Option.{same_Some}

-- at that place stands what was set
pub at_set : {X : Type 0} (xs : List X) (place : ℕ) (x : X) → place < length xs → slice_get (set xs place x) place ≡ Some x
at_set [] place x within = absurd (omega arith)
at_set (y ∷ ys) zero x within = refl
at_set (y ∷ ys) (suc place) x within = at_set ys place x (omega arith)

-- at any other place stands what stood there
pub beside_set : {X : Type 0} (xs : List X) (place other : ℕ) (x : X) → other ≢ place → slice_get (set xs place x) other ≡ slice_get xs other
beside_set [] place other x apart = refl
beside_set (y ∷ ys) zero zero x apart = absurd (apart refl)
beside_set (y ∷ ys) zero (suc other) x apart = refl
beside_set (y ∷ ys) (suc place) zero x apart = refl
beside_set (y ∷ ys) (suc place) (suc other) x apart = beside_set ys place other x (λ same. apart (ap suc same))

-- what the setting leaves as it was of each element
pub map_set : {X Y : Type 0} (f : X → Y) (xs : List X) (place : ℕ) (x y : X) → slice_get xs place ≡ Some x → f y ≡ f x → map f (set xs place y) ≡ map f xs
map_set f [] place x y stood same = refl
map_set f (z ∷ zs) zero x y stood same = ap (λ w. w ∷ map f zs) (same ∙ ap f (sym (same_Some z x stood)))
map_set f (z ∷ zs) (suc place) x y stood same = ap (λ l. f z ∷ l) (map_set f zs place x y stood same)
