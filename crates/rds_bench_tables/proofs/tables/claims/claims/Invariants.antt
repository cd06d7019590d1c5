use Rattle.std.proofs.Common.{◌≡◌, ◌≤◌, IsSome, None}
use Rattle.rds_bench_tables.proofs.tables.claims.claims.Given as goal

abbrev pub invariant-loop : goal.invariant-loop
invariant-loop l = record { table : l.seat.table ≡ l.table; slot : IsSome l.seat.view.slot; port : l.seat.view.port ≡ None; free : l.free ≤ l.counter }
