use Rattle.std.proofs.Common.{take}
use Rattle.rds_run_rounds.specs.Causes.{AreClosed}
use Rattle.rds_run_rounds.proofs.counting.is_closed.Given as goal

abbrev pub invariant-loop-place : goal.invariant-loop-place
invariant-loop-place g l = AreClosed (take l.place l.fn.row.items)
