-- The journals of lines that aren't full have room within the limit of the run.
use Rattle.std.proofs.Common.{◌≤◌, ◌+◌, ℕ, List, length, arith}
use Rattle.std.specs.List.{All}
use Rattle.rds_link.specs.Ends.{Means}
use Rattle.rds_line.specs.Line.{LineView, line_past}
use Rattle.rds_run_rounds.specs.Causes.{HasRoomForTwo, HaveRoom}
use Rattle.rds_run_rounds.specs.Done.{AreDone}
use Rattle.rds_run_threads.proofs.At.{all_at, all_from}
use Rattle.rds_run_threads.proofs.Hosts.{line_of}

module _ {E M : Type 0} (m : Means E) (limit hosts : ℕ) (rows : List (List (LineView E M))) (done : AreDone m limit hosts rows) where
  abbrev IsWithin : LineView E M → Type 0
  IsWithin line = length (line_past line) + 2 ≤ limit

  pub room_within : All HaveRoom rows → All (All IsWithin) rows
  room_within room =
      all_from (All IsWithin) rows
      (λ host row at.
      all_from IsWithin row
      (λ place line stands.
      let has = all_at HasRoomForTwo row place line (all_at HaveRoom rows host row room at) stands in
      let same = (line_of m limit hosts rows done host place line (row, at, stands)).limit_is in
      omega (arith, has, same)))
