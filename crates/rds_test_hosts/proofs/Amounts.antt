-- What an addition to one word adds to any.
use Rattle.std.proofs.Common.{◌≤◌, ℕ, ◌+◌, ◌==◌, cond, Bool, true, false, arith}
use Rattle.rds_meter.specs.declared.view.View.{View}
use Rattle.rds_meter.specs.declared.view.Step.TheVariants.{Added}
use Rattle.rds_meter.specs.Places.{part}
use Rattle.rds_meter.specs.Seats.{after_add}
use Rattle.rds_meter.specs.PartLaws.{part-push}

amount_if : (b : Bool) (k : ℕ) → cond b k 0 ≤ k
amount_if true k = omega arith
amount_if false k = omega arith

-- no part grows by more than what was added
pub part-most : (v : View) (word q k n most : ℕ) → part word v.steps ≤ most → part word (after_add v q k n).steps ≤ most + k
part-most v word q k n most b = let p = part-push word v.steps (Added q k n) in let m = amount_if (q == word) k in omega arith
