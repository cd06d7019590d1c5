use Rattle.std.proofs.Common.{◌≡◌, ◌-◌, length}
use Rattle.rds_host_end.specs.Risen.{StaysRisen}
use Rattle.rds_host_end.proofs.lines.take_line.Given as goal

abbrev pub invariant-loop-end : goal.invariant-loop-end
invariant-loop-end g l =
    (g.W.Wire.out l.wire ≡ g.W.Wire.out l.fn.wire - length l.yielded)
    × StaysRisen (g.W.Wire.counted l.fn.wire).faults (g.W.Wire.counted l.wire).faults
