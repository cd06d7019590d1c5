-- Where the walk goes on, it is at an index on the lists.
use Rattle.std.proofs.Common.{IfSome}
use Rattle.rds_msgs_lists.specs.Lists.{IsOn}
use Rattle.rds_test_conn.proofs.lists.all.Given as goal

abbrev pub invariant-loop : goal.invariant-loop
invariant-loop l = IfSome l.at (IsOn l.lists.places)
