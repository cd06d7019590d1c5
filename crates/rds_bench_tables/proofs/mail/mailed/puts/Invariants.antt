use Rattle.std.proofs.Common.{◌≡◌}
use Rattle.rds_bench_tables.proofs.mail.mailed.puts.Given as goal

abbrev pub invariant-loop-i : goal.invariant-loop-i
invariant-loop-i g l = l.put.mail ≡ l.mail.line
