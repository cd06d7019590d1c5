use Rattle.rds_host.specs.Lines.{AreTurned, pair_of}
use Rattle.rds_host.proofs.working.work.Given as goal

abbrev pub invariant-loop : goal.invariant-loop
invariant-loop g l = AreTurned g.E.End.means pair_of l.fn.lines.items l.lines.items
