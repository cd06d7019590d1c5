use Rattle.std.proofs.Common.{◌≡◌, ◌≤◌}
use Rattle.rds_bench_tables.proofs.tables.looks.looks.Given as goal

abbrev pub invariant-loop : goal.invariant-loop
invariant-loop l = record { table : l.seat.table ≡ l.table; held : l.held ≤ l.counter }
