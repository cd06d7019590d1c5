use Rattle.std.proofs.Common.{◌≡◌, Ok, map}
use Rattle.rds_report.proofs.lists.all_of.Given as goal

abbrev pub invariant-loop-one : goal.invariant-loop-one
invariant-loop-one g l = map Ok l.all.items ≡ l.yielded
