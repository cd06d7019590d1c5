use Rattle.std.proofs.Common.{◌≡◌, ◌-◌, ◌≤◌, length}
use Rattle.rds_run_hosts.proofs.returning.give_back_ends.Given as goal

abbrev pub invariant-loop-end : goal.invariant-loop-end
invariant-loop-end g l =
    (g.W.Wire.out l.wire ≡ g.W.Wire.out l.fn.wire - length l.yielded) × ((g.W.Wire.counted l.fn.wire).faults ≤ (g.W.Wire.counted l.wire).faults)
