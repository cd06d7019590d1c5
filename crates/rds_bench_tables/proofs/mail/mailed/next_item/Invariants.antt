use Rattle.std.proofs.Common.{◌≡◌}
use Rattle.rds_bench_tables.proofs.mail.mailed.next_item.Given as goal

abbrev pub invariant-loop : goal.invariant-loop
invariant-loop g l = l.get.mail ≡ l.mail.line
