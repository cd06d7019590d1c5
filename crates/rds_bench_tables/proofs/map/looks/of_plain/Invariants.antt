use Rattle.std.proofs.Common.{◌≤◌}
use Rattle.rds_bench_tables.proofs.map.looks.of_plain.Given as goal

abbrev pub invariant-loop : goal.invariant-loop
invariant-loop l = l.set ≤ l.counter
