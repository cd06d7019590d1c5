-- What stands at a place of a list, and sums over places.
use Rattle.std.proofs.Common.{◌≡◌, ◌≢◌, ◌+◌, ◌<◌, ◌==◌, ℕ, zero, suc, eqb, Bool, true, false, List, [], ◌∷◌, Some, length, set, slice_get, refl, ap, arith}
use Rattle.std.proofs.lemmas.Bool.{eqb-false, eqb-true}

pub either_way : {Goal : Type 0} (a b : ℕ) → (a ≡ b → Goal) → (a ≢ b → Goal) → Goal
either_way {Goal} a b same apart =
    let go : (t : Bool) → eqb a b ≡ t → Goal = elim [ true ↦ (λ e. same (eqb-true a b e)) | false ↦ (λ e. apart (eqb-false a b e)) ] in
    go (eqb a b) refl

-- what was set stands at its place, and at another place what stood there
pub at_set : {T : Type 0} (xs : List T) (i : ℕ) (x : T) → i < length xs → slice_get (set xs i x) i ≡ Some x
at_set [] i x within = absurd (omega (arith, within))
at_set (y ∷ xs) zero x within = refl
at_set (y ∷ xs) (suc i) x within = at_set xs i x (omega (arith, within))

pub beside_set : {T : Type 0} (xs : List T) (i j : ℕ) (x : T) → j ≢ i → slice_get (set xs i x) j ≡ slice_get xs j
beside_set [] i j x other = refl
beside_set (y ∷ xs) zero zero x other = absurd (other refl)
beside_set (y ∷ xs) zero (suc j) x other = refl
beside_set (y ∷ xs) (suc i) zero x other = refl
beside_set (y ∷ xs) (suc i) (suc j) x other = beside_set xs i j x (λ same. other (ap suc same))

-- there is something at each place within a list
pub some_at : {T : Type 0} (xs : List T) (i : ℕ) → i < length xs → (x : T) × (slice_get xs i ≡ Some x)
some_at [] i within = absurd (omega (arith, within))
some_at (x ∷ xs) zero within = (x, refl)
some_at (x ∷ xs) (suc i) within = some_at xs i (omega (arith, within))

-- the sum over so many numbers from one on
abbrev pub sum_up : (ℕ → ℕ) → (from count : ℕ) → ℕ
sum_up f from zero = 0
sum_up f from (suc count) = f from + sum_up f (suc from) count

-- a number is itself
pub same_number : (n : ℕ) → (n == n) ≡ true
same_number n =
    let go : (t : Bool) → eqb n n ≡ t → eqb n n ≡ true = elim [ true ↦ (λ e. e) | false ↦ (λ e. absurd (eqb-false n n e refl)) ] in
    go (eqb n n) refl
