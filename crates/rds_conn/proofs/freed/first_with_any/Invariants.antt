use Rattle.std.proofs.Common.{◌≡◌, sum, take}
use Rattle.rds_conn.proofs.freed.first_with_any.Given as goal

abbrev pub invariant-loop-slot : goal.invariant-loop-slot
invariant-loop-slot l = sum (take l.slot l.bytes) ≡ 0
