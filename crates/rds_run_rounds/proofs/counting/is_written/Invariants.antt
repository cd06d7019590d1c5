use Rattle.std.proofs.Common.{take}
use Rattle.rds_run_rounds.specs.Sweep.{AreWritten}
use Rattle.rds_run_rounds.proofs.counting.is_written.Given as goal

abbrev pub invariant-loop-place : goal.invariant-loop-place
invariant-loop-place g l = AreWritten (take l.place l.fn.row.items)
