use Rattle.std.proofs.Common.{length}
use Rattle.rds_run_rounds.specs.Grid.{rows_of}
use Rattle.rds_run_rounds.specs.Sweep.{AreSwept, IsPairBelow}
use Rattle.rds_run_rounds.proofs.sweeping.round_of_all.Given as goal

abbrev pub invariant-loop-low : goal.invariant-loop-low
invariant-loop-low g l =
    AreSwept g.W.End.End.means (rows_of l.fn.wanted) (IsPairBelow l.low (length l.fn.lines.items)) l.came (rows_of l.fn.lines.items) (rows_of l.lines.items)
