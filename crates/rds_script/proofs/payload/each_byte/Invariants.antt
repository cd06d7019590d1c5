use Rattle.std.proofs.Common.{◌≡◌, ℕ, ◌%◌, ◌<◌, length, get_or}
use Rattle.rds_script.proofs.payload.each_byte.Given as goal

-- each byte that is written stands for its own place
abbrev pub invariant-loop-i : goal.invariant-loop-i
invariant-loop-i l = (length l.table ≡ 256) × ((k : ℕ) → k < l.i → get_or l.table k 0 ≡ k % 256)
