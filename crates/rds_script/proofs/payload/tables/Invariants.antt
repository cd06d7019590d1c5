use Rattle.std.proofs.Common.{◌≡◌, ◌*◌}
use Rattle.rds_script.specs.Reading.{counting}
use Rattle.rds_script.proofs.payload.tables.Given as goal

-- the bytes of the whole tables so far
abbrev pub invariant-loop : goal.invariant-loop
invariant-loop l = l.bytes.items ≡ counting (256 * l.counter)
