use Rattle.std.proofs.Common.{◌≡◌, length}
use Rattle.rds_bench_tables.proofs.map.plain.Plain.new.Given as goal

abbrev pub invariant-loop : goal.invariant-loop
invariant-loop l = length l.words.items ≡ l.counter
