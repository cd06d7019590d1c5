-- What becomes of the lines of a host. Source: this project's own.
use Rattle.std.specs.Prelude.{◌≡◌, ℕ, List, [], Some, length, slice_get}
use Rattle.atomic_table.specs.Seated.{TableId}
use Rattle.rds_fmap.specs.Readers.{WriterView}
use Rattle.rds_link.specs.Ends.{Means}
use Rattle.rds_model.specs.declared.entry.TheConstants.{MAX_SLOTS}
use Rattle.rds_line_channel.specs.Channel.{new_channel}
use Rattle.rds_line.specs.Line.{LineView}
use Rattle.rds_line.specs.Stays.{LineStays}

-- which pair a writer is of
abbrev pub pair_of : WriterView → TableId
pair_of w = w.pair

module _ {E M : Type 0} where
  -- the line has this peer and these streams, nothing was done on it, and it has looked up no port
  abbrev pub IsNewLine : (me peer limit : ℕ) → List (ℕ × E) → LineView E M → Type 0
  IsNewLine me peer limit streams line = (line.channel ≡ new_channel me peer MAX_SLOTS limit streams) × (line.ports.view.steps ≡ [])

  -- there is a new line to each peer, over the streams in the same place
  pub record AreNewLines (me limit : ℕ) (peers : List ℕ) (streams : List (List (ℕ × E))) (lines : List (LineView E M)) : Type 0 where
    pub count : length lines ≡ length peers
    pub each : (place peer : ℕ) (list : List (ℕ × E)) (line : LineView E M) →
        slice_get peers place ≡ Some peer → slice_get streams place ≡ Some list → slice_get lines place ≡ Some line →
        IsNewLine me peer limit list line

  module _ {Name : Type 0} (m : Means E) (pair : M → Name) where
    -- the same lines, each of which may have turned
    pub record AreTurned (old new : List (LineView E M)) : Type 0 where
      pub count : length new ≡ length old
      pub each : (place : ℕ) (line after : LineView E M) → slice_get old place ≡ Some line → slice_get new place ≡ Some after →
          LineStays m pair line after
