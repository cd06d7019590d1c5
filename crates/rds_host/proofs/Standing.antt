-- For how many seats at the meter the slots and the lines of a host stand.
use Rattle.std.proofs.Common.{◌≡◌, ℕ, suc, List, [], ◌∷◌, Some, length, slice_get, refl, arith}
use Rattle.rds_seats.specs.Views.{total}

-- a number of each value, added up, where each value in the same place has the same
pub total_alike : {X : Type 0} (f : X → ℕ) (xs ys : List X) → length ys ≡ length xs → ((place : ℕ) (x y : X) → slice_get xs place ≡ Some x → slice_get ys place ≡ Some y → f y ≡ f x)
    → total f ys ≡ total f xs
total_alike f [] [] same each = refl
total_alike f [] (y ∷ ys) same each = absurd (omega (arith, same))
total_alike f (x ∷ xs) [] same each = absurd (omega (arith, same))
total_alike f (x ∷ xs) (y ∷ ys) same each =
    let first = each 0 x y refl refl in
    let rest = total_alike f xs ys (omega (arith, same)) (λ place a b one other. each (suc place) a b one other) in
    omega (arith, first, rest)
