use Rattle.std.proofs.Common.{◌≤◌}
use Rattle.rds_example_hosts.proofs.ending.accepted.Given as goal

abbrev pub invariant-loop-place : goal.invariant-loop-place
invariant-loop-place l = l.count ≤ l.place
