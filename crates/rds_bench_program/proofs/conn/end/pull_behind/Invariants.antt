use Rattle.std.proofs.Common.{◌≡◌}
use Rattle.rds_bench_program.specs.Behind.{IsBehind}
use Rattle.rds_bench_program.proofs.conn.end.pull_behind.Given as goal

abbrev pub invariant-loop : goal.invariant-loop
invariant-loop l = IsBehind l.conn × (l.conn.slots ≡ l.initial.conn.slots)
