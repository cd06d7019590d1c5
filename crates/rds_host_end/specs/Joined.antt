-- What a host shows once all its putters were joined: which orders of its slots its lines took, and which datagrams of its lines
-- its slots got. Source: this project's own.
use Rattle.std.specs.Prelude.{◌≡◌, ℕ, ◌≤◌, List, [], Some, All, length, slice_get}
use Rattle.rds_model.specs.declared.entry.Entry.{Entry}
use Rattle.rds_model.specs.declared.order.Datagram.{Datagram}
use Rattle.rds_model.specs.declared.order.Order.{Order}
use Rattle.rds_model.specs.Deliveries.{delivered_datagrams}
use Rattle.rds_model.specs.Honest.{Begins}
use Rattle.rds_model.specs.Sums.{maps, orders}
use Rattle.rds_mail.specs.Learning.{AllGot}
use Rattle.rds_mail.specs.Merging.{by_key}
use Rattle.rds_mail.specs.Numbers.{bare_items}
use Rattle.rds_host_end.specs.Joins.{sender_in, slot_of_order}
use Rattle.rds_socket_parts.specs.Lanes.{IsLaneAt, Lane}
use Rattle.rds_socket.specs.Holding.{Holding}
use Rattle.rds_line.specs.Keeps.{uncut}
use Rattle.rds_line.specs.Line.{LineView, line_past}
use Rattle.rds_host.specs.Telling.{AreBoxesTold, AreOrdersTold}
use Rattle.rds_fmap.specs.Readers.{ReaderView}
use Rattle.rds_host_end.specs.Shown.{HasLookedAt}

-- the orders of a slot that stand in a journal, oldest first
abbrev pub orders_of : (slot : ℕ) → List Entry → List Order
orders_of slot past = by_key slot_of_order slot (orders past)

-- those of some datagrams that came from a peer
abbrev pub from_peer : (peer : ℕ) → List Datagram → List Datagram
from_peer peer list = by_key sender_in peer list

-- the datagrams that a slot got, in order
abbrev pub got_by : {R : Type 0} → Holding R → List Datagram
got_by h = bare_items h.inbox.get.got

module _ {E M : Type 0} where
  abbrev pub peer_of : LineView E M → ℕ
  peer_of line = line.channel.conn.peer

  -- what the journal of a line delivered to a slot, in order
  abbrev pub line_delivered : (slot : ℕ) → LineView E M → List Datagram
  line_delivered slot line = delivered_datagrams (peer_of line) slot (line_past line)

  -- some line has this peer
  abbrev pub IsPeer : List (LineView E M) → ℕ → Type 0
  IsPeer lines host = (place : ℕ) × (line : LineView E M) × (slice_get lines place ≡ Some line) × (peer_of line ≡ host)

module _ {R E M : Type 0} where
  pub record AreJoined (slots : List (Holding R)) (lines : List (LineView E M)) : Type 0 where
    -- what stands of a slot's orders in a journal begins what the slot has put for that peer
    pub begin_taken : (slot place : ℕ) (h : Holding R) (lane : Lane R) (line : LineView E M) →
        slice_get slots slot ≡ Some h → IsLaneAt h.routes place lane → slice_get lines place ≡ Some line →
        Begins (orders_of slot (line_past line)) (uncut lane.pass.put)
    -- it is all of it where the line was told of all that the slots have put, and then found its queue empty
    pub all_taken : (slot place : ℕ) (h : Holding R) (lane : Lane R) (line : LineView E M) →
        slice_get slots slot ≡ Some h → IsLaneAt h.routes place lane → slice_get lines place ≡ Some line →
        AllGot line.orders → AreOrdersTold slots place line → orders_of slot (line_past line) ≡ uncut lane.pass.put
    -- what a slot got of a peer begins what the journal with that peer delivered to the slot
    pub begin_got : (slot place : ℕ) (h : Holding R) (line : LineView E M) → slice_get slots slot ≡ Some h → slice_get lines place ≡ Some line →
        Begins (from_peer (peer_of line) (got_by h)) (line_delivered slot line)
    -- it is all of it where the slot was told of all that the lines have put, and then found its mailbox empty
    pub all_got : (slot place : ℕ) (h : Holding R) (line : LineView E M) → slice_get slots slot ≡ Some h → slice_get lines place ≡ Some line →
        AllGot h.inbox.get → AreBoxesTold h lines → from_peer (peer_of line) (got_by h) ≡ line_delivered slot line
    -- and where there are lines it got nothing from anyone else
    pub known_senders : 1 ≤ length lines → (slot : ℕ) (h : Holding R) → slice_get slots slot ≡ Some h →
        All (λ item. IsPeer lines item.from) (got_by h)
    -- and where there are slots no journal has an order of another slot
    pub known_slots : 1 ≤ length slots → (slot place : ℕ) (line : LineView E M) → slice_get lines place ≡ Some line → length slots ≤ slot →
        orders_of slot (line_past line) ≡ []

module _ {E M : Type 0} where
  -- Each look of a slot at a peer's congestion map found what the map of its version has, among those that the journal with that peer
  -- read.
  abbrev pub AreLooksOfJournals : List (Holding ReaderView) → List (LineView E M) → Type 0
  AreLooksOfJournals slots lines = (slot place : ℕ) (h : Holding ReaderView) (lane : Lane ReaderView) (line : LineView E M) →
      slice_get slots slot ≡ Some h → IsLaneAt h.routes place lane → slice_get lines place ≡ Some line → HasLookedAt (maps (line_past line)) lane.reader
