use Rattle.std.proofs.Common.{◌≡◌, ◌*◌, false, take}
use Rattle.std.specs.Fmt.{HasWritten, IsPlainFormatter}
use Rattle.rds_text.specs.Words.{listed}
use Rattle.rds_text.specs.Ports.{set_ports}
use Rattle.rds_text.proofs.Listed.{started}
use Rattle.rds_text.proofs.ports.PortSetDisplay.fmt.Given as goal

abbrev pub invariant-loop-byte : goal.invariant-loop-byte
invariant-loop-byte g l =
    (l.first ≡ 8 * l.byte-index)
    × (l.any ≡ started false (set_ports (take l.byte-index l.byte-items)))
    × (IsPlainFormatter l.initial.f
    → HasWritten g.W.Write.write_str_gives l.initial.f (listed false (set_ports (take l.byte-index l.byte-items))) l.f)
