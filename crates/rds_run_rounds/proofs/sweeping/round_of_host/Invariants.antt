use Rattle.rds_run_rounds.specs.Grid.{rows_of}
use Rattle.rds_run_rounds.specs.Sweep.{AreSwept, IsPairOf}
use Rattle.rds_run_rounds.proofs.sweeping.round_of_host.Given as goal

abbrev pub invariant-loop-high : goal.invariant-loop-high
invariant-loop-high g l = AreSwept g.W.End.End.means (rows_of l.fn.wanted) (IsPairOf l.fn.low l.high) l.came (rows_of l.fn.lines.items) (rows_of l.lines.items)
