use Rattle.std.proofs.Common.{◌≡◌}
use Rattle.rds_test_tables.proofs.threads.gets.Given as goal

abbrev pub invariant-loop : goal.invariant-loop
invariant-loop g l = l.get.mail ≡ l.mail.line
