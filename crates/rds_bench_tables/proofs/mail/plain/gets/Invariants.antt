use Rattle.std.proofs.Common.{◌≤◌}
use Rattle.rds_bench_tables.proofs.mail.plain.gets.Given as goal

abbrev pub invariant-loop : goal.invariant-loop
invariant-loop g l = l.got ≤ l.counter
