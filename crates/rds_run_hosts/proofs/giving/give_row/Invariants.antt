use Rattle.std.proofs.Common.{◌≡◌, length}
use Rattle.rds_run_hosts.proofs.Handing.{AreDoneBelow, IsGiven}
use Rattle.rds_run_hosts.proofs.giving.give_row.Given as goal

abbrev pub invariant-loop-ends : goal.invariant-loop-ends
invariant-loop-ends g l =
    (l.place ≡ length l.yielded) × AreDoneBelow IsGiven (length l.yielded) l.fn.streams.items l.fn.lines.items l.lines.items
