-- The lines of a run once the last rounds are over. Source: this project's own.
use Rattle.std.specs.Prelude.{ℕ, ◌≤◌, List}
use Rattle.rds_text.specs.declared.host.TheConstants.{MAX_HOSTS}
use Rattle.rds_link.specs.Ends.{Means}
use Rattle.rds_line.specs.Line.{LineView, line_past}
use Rattle.rds_run_rounds.specs.Connection.{AreOfHosts}
use Rattle.rds_run_rounds.specs.Grid.{AreRows, OfEachPair}
use Rattle.rds_run_rounds.specs.Sound.{AreSoundJournals}

-- the lines of two hosts have each other as peers, and what their journals have is sound
pub record AreSoundLines {E M : Type 0} (m : Means E) (limit low high : ℕ) (one other : LineView E M) : Type 0 where
  pub hosts : AreOfHosts limit low high one other
  pub sound : AreSoundJournals m.tells (line_past one) (line_past other)

-- each of so many hosts has a line to each other one, and those of each two hosts are so
pub record AreDone {E M : Type 0} (m : Means E) (limit hosts : ℕ) (rows : List (List (LineView E M))) : Type 0 where
  pub few : hosts ≤ MAX_HOSTS
  pub shape : AreRows hosts rows
  pub sound : OfEachPair (AreSoundLines m limit) rows
