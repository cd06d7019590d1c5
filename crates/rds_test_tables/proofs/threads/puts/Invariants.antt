use Rattle.std.proofs.Common.{◌≡◌}
use Rattle.rds_test_tables.proofs.threads.puts.Given as goal

abbrev pub invariant-loop-i : goal.invariant-loop-i
invariant-loop-i g l = l.pass.mail ≡ l.mail.line
