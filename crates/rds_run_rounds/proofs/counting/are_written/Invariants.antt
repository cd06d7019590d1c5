use Rattle.std.proofs.Common.{All, take}
use Rattle.rds_run_rounds.specs.Sweep.{AreWritten}
use Rattle.rds_run_rounds.proofs.counting.are_written.Given as goal

abbrev pub invariant-loop-host : goal.invariant-loop-host
invariant-loop-host g l = All (λ list. AreWritten list.items) (take l.host l.fn.lines.items)
