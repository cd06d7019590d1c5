-- What nothing that is done with the slots and lines of a host changes. Source: this project's own.
use Rattle.std.specs.Prelude.{◌≡◌, ℕ, List, Some, length, slice_get}
use Rattle.rds_fmap.specs.Readers.{HasSeen, ReaderView, WriterView}
use Rattle.rds_meter.specs.Grounds.{seats_of}
use Rattle.rds_socket.specs.Holding.{Holding}
use Rattle.rds_socket.specs.Stays.{HoldingStays}
use Rattle.rds_line.specs.Line.{LineView}
use Rattle.rds_line.specs.Stays.{AreSameBoxes}

-- a slot is the same: its seats, its mailbox, and its putters and readers
pub record SlotKeeps (old new : Holding ReaderView) : Type 0 where
  pub stays : HoldingStays (λ r. r.pair) HasSeen old new
  pub joined : new.inbox.get.joined ≡ old.inbox.get.joined

-- the same slots, place by place
pub record SlotsKeep (old new : List (Holding ReaderView)) : Type 0 where
  pub count : length new ≡ length old
  pub each : (slot : ℕ) (h after : Holding ReaderView) → slice_get old slot ≡ Some h → slice_get new slot ≡ Some after → SlotKeeps h after

module _ {E : Type 0} where
  -- a line is the same: its peer, its queue, its putters, its seats and for how many that at the meter stands, and the pair of the
  -- peer's map
  pub record LineKeeps (old new : LineView E WriterView) : Type 0 where
    pub peer : new.channel.conn.peer ≡ old.channel.conn.peer
    pub mail : new.orders.mail ≡ old.orders.mail
    pub joined : new.orders.joined ≡ old.orders.joined
    pub boxes : AreSameBoxes old.boxes new.boxes
    pub ports : new.ports.table ≡ old.ports.table
    pub words : new.words.table ≡ old.words.table
    pub seats : seats_of new.words.view ≡ seats_of old.words.view
    pub pair : new.map.pair ≡ old.map.pair

  -- the same lines, place by place
  pub record LinesKeep (old new : List (LineView E WriterView)) : Type 0 where
    pub count : length new ≡ length old
    pub each : (place : ℕ) (line after : LineView E WriterView) → slice_get old place ≡ Some line → slice_get new place ≡ Some after → LineKeeps line after
