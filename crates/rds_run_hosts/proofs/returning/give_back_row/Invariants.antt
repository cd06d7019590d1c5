use Rattle.std.proofs.Common.{◌≡◌, ◌-◌, ◌≤◌}
use Rattle.rds_run_hosts.specs.Held.{ends_of_row}
use Rattle.rds_run_hosts.proofs.returning.give_back_row.Given as goal

abbrev pub invariant-loop-ends : goal.invariant-loop-ends
invariant-loop-ends g l =
    (g.W.Wire.out l.wire ≡ g.W.Wire.out l.fn.wire - ends_of_row l.yielded) × ((g.W.Wire.counted l.fn.wire).faults ≤ (g.W.Wire.counted l.wire).faults)
