use Rattle.std.proofs.Common.{◌≡◌}
use Rattle.rds_script.specs.Reading.{counting}
use Rattle.rds_script_gen.proofs.filling.longest.Given as goal

-- the bytes so far
abbrev pub invariant-loop-byte : goal.invariant-loop-byte
invariant-loop-byte l = l.bytes.items ≡ counting l.byte
