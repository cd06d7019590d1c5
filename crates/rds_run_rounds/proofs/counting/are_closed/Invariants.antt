use Rattle.std.proofs.Common.{All, take}
use Rattle.rds_run_rounds.specs.Causes.{AreClosed}
use Rattle.rds_run_rounds.proofs.counting.are_closed.Given as goal

abbrev pub invariant-loop-host : goal.invariant-loop-host
invariant-loop-host g l = All (λ list. AreClosed list.items) (take l.host l.fn.lines.items)
