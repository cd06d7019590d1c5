use Rattle.rds_run_rounds.specs.Grid.{rows_of}
use Rattle.rds_run_hosts.proofs.Telling.{AreToldBelow}
use Rattle.rds_run_hosts.proofs.leading.tell_all.Given as goal

abbrev pub invariant-loop-host : goal.invariant-loop-host
invariant-loop-host g l = AreToldBelow l.host l.fn.callers.items l.callers.items (rows_of l.fn.lines.items) (rows_of l.lines.items)
