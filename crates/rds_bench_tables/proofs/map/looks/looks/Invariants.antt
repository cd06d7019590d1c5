use Rattle.std.proofs.Common.{◌≤◌}
use Rattle.rds_bench_tables.proofs.map.looks.looks.Given as goal

abbrev pub invariant-loop : goal.invariant-loop
invariant-loop g l = l.set ≤ l.counter
