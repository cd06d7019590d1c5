use Rattle.std.proofs.Common.{◌≡◌, ◌-◌}
use Rattle.rds_host_end.specs.Risen.{StaysRisen}
use Rattle.rds_host.specs.Held.{ends_in}
use Rattle.rds_run_threads.proofs.giving.end_row.Given as goal

abbrev pub invariant-loop-line : goal.invariant-loop-line
invariant-loop-line g l =
    (g.W.Wire.out l.wire ≡ g.W.Wire.out l.fn.wire - ends_in l.yielded)
    × StaysRisen (g.W.Wire.counted l.fn.wire).faults (g.W.Wire.counted l.wire).faults
