use Rattle.std.proofs.Common.{◌≡◌}
use Rattle.rds_test_tables.proofs.threads.next_item.Given as goal

abbrev pub invariant-loop : goal.invariant-loop
invariant-loop g l = l.get.mail ≡ l.mail.line
