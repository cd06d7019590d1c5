use Rattle.std.proofs.Common.{◌≡◌, Ok, map}
use Rattle.rds_run_hosts.proofs.playing.all_of.Given as goal

abbrev pub invariant-loop-caller : goal.invariant-loop-caller
invariant-loop-caller l = map Ok l.callers.items ≡ l.yielded
