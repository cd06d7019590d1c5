use Rattle.std.proofs.Common.{◌≡◌, ◌++◌}
use Rattle.rds_host_end.proofs.grounds.add_lines.Given as goal

abbrev pub invariant-loop-line : goal.invariant-loop-line
invariant-loop-line l = l.seats.items ≡ l.fn.seats.items ++ l.yielded
