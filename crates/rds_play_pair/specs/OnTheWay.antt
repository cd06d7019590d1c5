-- What every joint keeps: at most one frame is on its way in each direction. Source: this project's own.
use Rattle.std.specs.Prelude.{◌≡◌, ◌⊎◌, ℕ, ◌<◌, IsSome, Option, Some, None, List, [], ◌++◌, length}
use Rattle.rds_wire.specs.declared.frame.Frame.{Frame}
use Rattle.rds_wire.specs.Bytes.{frame_bytes}
use Rattle.rds_model.specs.Past.{open_stream}
use Rattle.rds_model.specs.Streams.{written_bytes, read_bytes}
use Rattle.rds_play_pair.specs.Ends.{JointEnd}
use Rattle.rds_model.specs.Sums.{last_pulled_frame}

-- Here `writer` is the end that pulls, `waiting` the whole frame that has come to the other end and wasn't passed, and
-- `kept` what that end has of a frame which isn't whole.

-- nothing is on its way
pub record HasNothingOnWay (kept : List ℕ) (writer : JointEnd) (waiting : Option Frame) : Type 0 where
  pub none_flies : writer.flying ≡ []
  pub none_waits : waiting ≡ None
  pub none_kept : kept ≡ []

-- the frame that was pulled last has come in part: what is kept and what is in flight are its bytes
pub record IsGoing (kept : List ℕ) (writer : JointEnd) (waiting : Option Frame) : Type 0 where
  pub frame : Frame
  pub newest : last_pulled_frame writer.past ≡ Some frame
  pub bytes : kept ++ writer.flying ≡ frame_bytes frame
  pub some_fly : 0 < length writer.flying
  pub none_waits : waiting ≡ None
  pub on : IsSome (open_stream writer.past)

-- the frame that was pulled last has come whole
pub record HasCome (kept : List ℕ) (writer : JointEnd) (waiting : Option Frame) : Type 0 where
  pub frame : Frame
  pub newest : last_pulled_frame writer.past ≡ Some frame
  pub waits : waiting ≡ Some frame
  pub none_flies : writer.flying ≡ []
  pub none_kept : kept ≡ []

-- at most one frame is on its way
abbrev pub HasAtMostOne : (kept : List ℕ) → (writer : JointEnd) → (waiting : Option Frame) → Type 0
HasAtMostOne kept writer waiting = HasNothingOnWay kept writer waiting ⊎ IsGoing kept writer waiting ⊎ HasCome kept writer waiting

-- so it is from one end to the other, of whatever the other keeps
abbrev pub SendsOneByOne : (writer reader : JointEnd) → Type 0
SendsOneByOne writer reader = (kept : List ℕ) × HasAtMostOne kept writer reader.waiting

-- Where nothing is on its way, the reader has read all that was written to its open stream.
pub record ReadsAll (writer reader : JointEnd) : Type 0 where
  pub all : writer.flying ≡ [] → reader.waiting ≡ None → (s : ℕ) → open_stream reader.past ≡ Some s →
      read_bytes s reader.past ≡ written_bytes s writer.past
