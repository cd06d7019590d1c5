-- Private: it serves the contracts of the private steps of a turn, and their proofs. What most of them leave as it was,
-- and what they do with the frames that came. Source: this project's own.
use Rattle.std.specs.Prelude.{◌≡◌, ℕ, ◌+◌, ◌*◌, ◌/◌, ◌%◌, ◌<◌, ◌==◌, if◌then◌else◌, true, List, Some, is_some, length}
use Rattle.std.specs.Int.{bit_at}
use Rattle.rds_wire.specs.declared.frame.Frame.{Frame}
use Rattle.rds_model.specs.declared.entry.Verdict.{Verdict}
use Rattle.rds_model.specs.Reading.{verdict_of}
use Rattle.rds_cong.specs.Map.{has_port, word_at}
use Rattle.rds_conn.specs.declared.conn.Found.{Found}
use Rattle.rds_conn.specs.Connection.{Connection}
use Rattle.rds_conn.specs.Passing.{Passes}
use Rattle.rds_line_channel.specs.Channel.{ChannelView, arrived_bytes, with_conn}
use Rattle.rds_link.specs.Ends.{Means}
use Rattle.rds_line.specs.Line.{LineView, line_past, pulls_in}
use Rattle.rds_line.specs.Stays.{LineStays}

-- a port is in the map where its bit is set in its word
abbrev pub HasBits : List ℕ → Type 0
HasBits map = (port : ℕ) → port < 65536 → has_port map port ≡ (bit_at (word_at map (port / 64)) (port % 64) == 1)

-- a frame waits of which this has to become
pub record IsWaiting (verdict : Verdict) (c : Connection) : Type 0 where
  pub frame : Frame
  pub waits : c.waiting ≡ Some frame
  pub is : verdict_of c.log.past frame.header ≡ verdict

module _ {E : Type 0} where
  -- the frame that waited was passed
  pub record PassesOne (old new : ChannelView E) : Type 0 where
    pub found : Found
    pub passes : Passes found old.conn new.conn
    pub rest : new ≡ with_conn old new.conn

  -- where no entry was appended, the bytes that came and were not passed are the same
  abbrev pub KeepsArrived : ChannelView E → ChannelView E → Type 0
  KeepsArrived old new = new.conn.log.past ≡ old.conn.log.past → arrived_bytes new ≡ arrived_bytes old

  -- where no entry was appended, the bytes that are to be written are the same
  abbrev pub KeepsUnwritten : ChannelView E → ChannelView E → Type 0
  KeepsUnwritten old new = new.conn.log.past ≡ old.conn.log.past → new.out ≡ old.out

  -- where a stream is open it was open before, and the bytes that are to be written to it are the same
  abbrev pub KeepsOut : ChannelView E → ChannelView E → Type 0
  KeepsOut old new = new.streams.is_open ≡ true → (old.streams.is_open ≡ true) × (new.out ≡ old.out)

  -- how much is left of what came: it falls with each frame that is passed
  abbrev pub left_to_take : ChannelView E → ℕ
  left_to_take c = 2 * length c.piece + (if is_some c.conn.waiting then 1 else 0)

module _ {E M Name : Type 0} (m : Means E) (pair : M → Name) where
  -- the step left what every turn leaves, took no order, pulled no frame, and didn't look at the host's own map
  pub record StaysQuiet (old new : LineView E M) : Type 0 where
    pub stays : LineStays m pair old new
    pub orders : new.orders ≡ old.orders
    pub own : new.own ≡ old.own
    pub pulls : pulls_in (line_past new) ≡ pulls_in (line_past old)
