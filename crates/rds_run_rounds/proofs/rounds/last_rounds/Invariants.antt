use Rattle.std.proofs.Common.{ℕ}
use Rattle.rds_run_rounds.specs.Connection.{AreHosts}
use Rattle.rds_run_rounds.specs.Grid.{EachRow, rows_of}
use Rattle.rds_run_rounds.specs.Quiet.{LinesGoOn}
use Rattle.rds_run_rounds.proofs.rounds.last_rounds.Given as goal

abbrev pub invariant-loop : goal.invariant-loop
invariant-loop g l =
    ((limit hosts : ℕ) → AreHosts g.W.End.End.means limit hosts (rows_of l.fn.lines.items) → AreHosts g.W.End.End.means limit hosts (rows_of l.lines.items))
    × EachRow LinesGoOn (rows_of l.fn.lines.items) (rows_of l.lines.items)
