use Rattle.rds_host_end.specs.Heard.{HasHeard}
use Rattle.rds_host_end.proofs.owners.hear_lines.Given as goal

abbrev pub invariant-loop-line : goal.invariant-loop-line
invariant-loop-line l = HasHeard l.fn.seen l.yielded l.seen
