use Rattle.rds_host.specs.Lines.{AreTurned, pair_of}
use Rattle.rds_host.proofs.working.turn_all.Given as goal

abbrev pub invariant-loop-i : goal.invariant-loop-i
invariant-loop-i g l = AreTurned g.E.End.means pair_of l.fn.lines l.lines
