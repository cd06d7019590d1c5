use Rattle.std.proofs.Common.{◌≡◌}
use Rattle.rds_run_rounds.specs.Grid.{rows_of}
use Rattle.rds_run_threads.specs.Settled.{HaveHeardBelow}
use Rattle.rds_run_threads.proofs.leaving.tell_all_slots.Given as goal

abbrev pub invariant-loop-host : goal.invariant-loop-host
invariant-loop-host g l =
    HaveHeardBelow l.host l.fn.callers.items l.callers.items (rows_of l.fn.lines.items) × (rows_of l.lines.items ≡ rows_of l.fn.lines.items)
