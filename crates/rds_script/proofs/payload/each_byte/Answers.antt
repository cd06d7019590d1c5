use Rattle.std.proofs.Common.{ℕ, ◌%◌, rules}
use Rattle.std.proofs.lemmas.List.FromFn.{fill_by_all}
use Rattle.rds_script.proofs.payload.each_byte.Goals as goal

pub returns : goal.returns
returns c = fill_by_all (λ (k : ℕ). k % 256) c.loop-i.table 256 0 c.loop-i.invariant.0 (search rules)
