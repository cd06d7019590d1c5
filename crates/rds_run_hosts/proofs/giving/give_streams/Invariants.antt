use Rattle.std.proofs.Common.{◌≡◌, length}
use Rattle.rds_run_rounds.specs.Grid.{rows_of}
use Rattle.rds_run_hosts.proofs.Handing.{AreDoneBelow, IsRowGiven}
use Rattle.rds_run_hosts.proofs.giving.give_streams.Given as goal

abbrev pub invariant-loop-row : goal.invariant-loop-row
invariant-loop-row g l =
    (l.host ≡ length l.yielded) × AreDoneBelow IsRowGiven (length l.yielded) (rows_of l.fn.streams.items) (rows_of l.fn.lines.items) (rows_of l.lines.items)
