-- The two lines of each two hosts have streams with the same numbers, whatever was told and done.
use Rattle.std.proofs.Common.{◌≡◌, ℕ, suc, List, Some, length, slice_get, sym, ap, ◌∙◌}
use Rattle.rds_link.specs.Ends.{Means}
use Rattle.rds_fmap.specs.Readers.{WriterView}
use Rattle.rds_line.specs.Line.{LineView}
use Rattle.rds_line_channel.specs.Streams.{numbers}
use Rattle.rds_run_rounds.specs.Connection.{AreHosts, AreSameConnections}
use Rattle.rds_run_rounds.specs.Grid.{EachRow, IsAt}
use Rattle.rds_run_rounds.specs.Quiet.{LinesGoOn}
use Rattle.rds_run_threads.specs.Taking.{HaveSameStreams}
use Rattle.rds_run_threads.proofs.At.{stood_at}

module _ {E : Type 0} where
  -- each line has streams with the numbers of those that it had
  abbrev pub HaveNumbersOf : List (LineView E WriterView) → List (LineView E WriterView) → Type 0
  HaveNumbersOf row after =
      (length after ≡ length row)
      × ((place : ℕ) (line later : LineView E WriterView) → slice_get row place ≡ Some line → slice_get after place ≡ Some later →
      numbers later.channel.streams.list ≡ numbers line.channel.streams.list)

  pub was_at : (Same : List (LineView E WriterView) → List (LineView E WriterView) → Type 0) (rows new : List (List (LineView E WriterView))) →
      EachRow Same rows new → ((row after : List (LineView E WriterView)) → Same row after → HaveNumbersOf row after) →
      (host place : ℕ) (later : LineView E WriterView) → IsAt new host place later →
      (line : LineView E WriterView) × IsAt rows host place line × (numbers later.channel.streams.list ≡ numbers line.channel.streams.list)
  was_at Same rows new each law host place later at =
      let row = stood_at rows new host at.0 each.count at.1 in
      let same = law row.0 at.0 (each.each host row.0 at.0 row.1 at.1) in
      let line = stood_at row.0 at.0 place later same.0 at.2 in
      (line.0, (row.0, row.1, line.1), same.1 place line.0 later line.1 at.2)

  streams_keep : (Same : List (LineView E WriterView) → List (LineView E WriterView) → Type 0) (rows new : List (List (LineView E WriterView))) →
      EachRow Same rows new → ((row after : List (LineView E WriterView)) → Same row after → HaveNumbersOf row after) →
      HaveSameStreams rows → HaveSameStreams new
  streams_keep Same rows new each law same low place one other le at_one at_other =
      let a = was_at Same rows new each law low place one at_one in
      let b = was_at Same rows new each law (suc place) low other at_other in
      b.2 ∙ (same low place a.0 b.0 le a.1 b.1 ∙ sym a.2)

  -- a line of the same connection has them, and one that went on
  pub same_connections : (row after : List (LineView E WriterView)) → AreSameConnections row after → HaveNumbersOf row after
  same_connections row after keep =
      (keep.count, λ place line now at is. ap (λ (l : List (ℕ × E)). numbers l) (keep.each place line now at is).streams)

  pub went_on : (row after : List (LineView E WriterView)) → LinesGoOn row after → HaveNumbersOf row after
  went_on row after go = (go.count, λ place line now at is. (go.each place line now at is).numbers)

  -- once the lines were told of orders, and went on
  pub streams_end : (m : Means E) (limit hosts : ℕ) (rows told after : List (List (LineView E WriterView))) → AreHosts m limit hosts rows →
      EachRow AreSameConnections rows told → EachRow LinesGoOn told after → HaveSameStreams after
  streams_end m limit hosts rows told after are kept goes =
      streams_keep LinesGoOn told after goes went_on
      (streams_keep AreSameConnections rows told kept same_connections
      (λ low place one other le at_one at_other. (are.connected low place one other le at_one at_other).streams.same))
