-- The journals of the two lines of a connection between which nothing is left to do. Source: this project's own.
use Rattle.std.specs.Prelude.{ℕ, List}
use Rattle.rds_model.specs.declared.entry.Entry.{Entry}
use Rattle.rds_model.specs.Drained.{IsQuiet, IsSettledBetween}
use Rattle.rds_line.specs.Line.{LineView, line_past}
use Rattle.rds_run_rounds.specs.Grid.{OfEachPair}

-- One stream is open at both ends, each host got all that the other wrote to it, and neither owes anything. No number is alive, and
-- each host has read the last map of the other.
pub record AreDrained (low high : List Entry) : Type 0 where
  pub stream : ℕ
  pub quiet : IsQuiet stream low high
  pub settled : IsSettledBetween stream low high

-- so it is between each two hosts
abbrev pub AreDrainedLines : {E M : Type 0} → List (List (LineView E M)) → Type 0
AreDrainedLines {E} {M} rows = OfEachPair (λ low high (one : LineView E M) (other : LineView E M). AreDrained (line_past one) (line_past other)) rows
