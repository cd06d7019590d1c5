-- Laws, each proved: proofs in other crates use them. Nothing here has to be believed.
-- What lists of steps add to a word.
use Rattle.std.proofs.Common.{◌≡◌, ◌≢◌, ℕ, ◌+◌, List, [], ◌∷◌, ◌++◌, eq-eqb, ne_eqb, cond, Bool, refl, ap, arith}
use Rattle.rds_meter.specs.declared.view.View.{View}
use Rattle.rds_meter.specs.declared.view.Step.{Step}
use Rattle.rds_meter.specs.declared.view.Step.TheVariants.{Added}
use Rattle.rds_meter.specs.Places.{amount_in, part}
use Rattle.rds_meter.specs.Seats.{after_add}

pub part-append : (w : ℕ) (xs ys : List Step) → part w (xs ++ ys) ≡ part w xs + part w ys
part-append w [] ys = omega arith
part-append w (x ∷ xs) ys = let h = part-append w xs ys in omega arith

pub part-push : (w : ℕ) (xs : List Step) (s : Step) → part w (xs ++ s ∷ []) ≡ part w xs + amount_in w s
part-push w xs s = let h = part-append w xs (s ∷ []) in omega arith

-- an addition counts for its own word alone
pub amount_here : (w q k n : ℕ) → q ≡ w → amount_in w (Added q k n) ≡ k
amount_here w q k n e = ap (λ (b : Bool). cond b k 0) (eq-eqb q w e)

pub amount_there : (w q k n : ℕ) → q ≢ w → amount_in w (Added q k n) ≡ 0
amount_there w q k n ne = ap (λ (b : Bool). cond b k 0) (ne_eqb q w ne)

-- an addition by a seat, in its own part of the word
pub part-after_add : (v : View) (w k n : ℕ) → part w (after_add v w k n).steps ≡ part w v.steps + k
part-after_add v w k n = let p = part-push w v.steps (Added w k n) in let a = amount_here w w k n refl in omega arith
