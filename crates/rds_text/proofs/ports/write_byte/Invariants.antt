use Rattle.std.proofs.Common.{◌≡◌}
use Rattle.std.specs.Fmt.{HasWritten, IsPlainFormatter}
use Rattle.rds_text.specs.Words.{listed}
use Rattle.rds_text.proofs.Listed.{started, ports_below}
use Rattle.rds_text.proofs.ports.write_byte.Given as goal

abbrev pub invariant-loop-bit : goal.invariant-loop-bit
invariant-loop-bit g l =
    (l.any ≡ started l.initial.any (ports_below l.first l.byte l.bit))
    × (IsPlainFormatter l.initial.f
    → HasWritten g.W.Write.write_str_gives l.initial.f (listed l.initial.any (ports_below l.first l.byte l.bit)) l.f)
