-- Private: it serves the contracts of the private functions that tell slots and lines of each other, one after the other. Source: this
-- project's own.
use Rattle.std.specs.Prelude.{◌≡◌, ℕ, ◌<◌, List, Some, length, slice_get}
use Rattle.rds_bindtab.specs.Seats.{joined, knowing, note_of}
use Rattle.rds_fmap.specs.Readers.{ReaderView, WriterView}
use Rattle.rds_mail.specs.Passes.{Putter}
use Rattle.rds_model.specs.declared.order.Datagram.{Datagram}
use Rattle.rds_socket_parts.specs.Lanes.{IsLaneAt, Lane}
use Rattle.rds_line_parts.specs.Boxes.{IsBoxOf}
use Rattle.rds_socket.specs.Holding.{Holding, Open}
use Rattle.rds_line.specs.Line.{LineView}
use Rattle.rds_host.specs.Telling.{IsPortTold, IsTold}
use Rattle.rds_run_callers.specs.Places.{Bound, Ended, IsUsed, Place, Spare, Vacant, holding_of}

module _ {E : Type 0} where
  -- no slot is vacant, and the route at this place of each is to the line
  pub record CanTellLine (places : List Place) (place : ℕ) (line : LineView E WriterView) : Type 0 where
    pub used : (slot : ℕ) (p : Place) → slice_get places slot ≡ Some p → IsUsed p
    pub routes : (slot : ℕ) (p : Place) → slice_get places slot ≡ Some p → place < length (holding_of p).routes
    pub mails : (slot : ℕ) (p : Place) (lane : Lane ReaderView) → slice_get places slot ≡ Some p → IsLaneAt (holding_of p).routes place lane →
        lane.pass.mail ≡ line.orders.mail

  -- the line was told of what the first slots, up to this one, have put for it by their routes at this place
  abbrev pub AreSlotsToldTo : (upto : ℕ) → List Place → (place : ℕ) → LineView E WriterView → Type 0
  AreSlotsToldTo upto places place line = (slot : ℕ) (p : Place) (lane : Lane ReaderView) → slot < upto → slice_get places slot ≡ Some p →
      IsLaneAt (holding_of p).routes place lane → IsTold line.orders.told lane.pass

  -- the slot was told of what the first lines, up to this one, have put into its mailbox
  abbrev pub AreLinesToldTo : (upto : ℕ) → List (LineView E WriterView) → Holding ReaderView → Type 0
  AreLinesToldTo upto lines h = (place : ℕ) (line : LineView E WriterView) (box : Putter Datagram) → place < upto → slice_get lines place ≡ Some line →
      IsBoxOf line.boxes h.words.slot box → IsTold h.inbox.get.told box

  -- the slots' seats are at the line's port table
  abbrev pub AreAtTable : List Place → LineView E WriterView → Type 0
  AreAtTable places line = (slot : ℕ) (p : Place) → slice_get places slot ≡ Some p → (holding_of p).ports.table ≡ line.ports.table

  -- a line whose seat was told of the port at this place, if a socket is bound there
  abbrev pub after_port : Place → LineView E WriterView → LineView E WriterView
  after_port (Vacant h) line = line
  after_port (Bound o got) line = record line { ports = knowing line.ports (joined line.ports.view (note_of o.own.ports.view)) }
  after_port (Ended port h got) line = line
  after_port (Spare h) line = line

  -- the line's seat was told of the ports of the sockets at the first slots, up to this one
  abbrev pub ArePortsToldTo : (upto : ℕ) → List Place → LineView E WriterView → Type 0
  ArePortsToldTo upto places line = (slot : ℕ) (o : Open ReaderView) (got : List Datagram) → slot < upto → slice_get places slot ≡ Some (Bound o got) →
      IsPortTold line.ports o.own.ports
