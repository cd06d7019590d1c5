-- The putters of a host's queues: which slot and which line has which, and that none is missing, nor a seat at its meter.
-- Source: this project's own.
use Rattle.std.specs.Prelude.{◌≡◌, ℕ, zero, suc, ◌+◌, ◌-◌, List, [], ◌∷◌, Some, length, map, slice_get}
use Rattle.rds_seats.specs.Views.{total}
use Rattle.rds_meter.specs.Grounds.{seats_of}
use Rattle.rds_mail.specs.Numbers.{Number}
use Rattle.rds_model.specs.declared.order.Datagram.{Datagram}
use Rattle.rds_mail.specs.Passes.{Putter}
use Rattle.rds_socket_parts.specs.Lanes.{Ascend, IsLaneAt, Lane}
use Rattle.rds_line_parts.specs.Boxes.{IsBoxOf}
use Rattle.rds_socket.specs.Holding.{Holding}
use Rattle.rds_line.specs.Line.{LineView}
use Rattle.rds_host.specs.Slots.{AreInPlace}

-- The number of the putter that the slot or the line at a place has: the first has the queue's first putter, and each later one the
-- next that this one split off.
abbrev pub putter_number : ℕ → Number
putter_number zero = []
putter_number (suc k) = k ∷ []

-- how many putters it has split off, where the queue has so many in all
abbrev pub splits_at : (count place : ℕ) → ℕ
splits_at count zero = count - 1
splits_at count (suc k) = 0

-- for how many seats at the meter those of slots stand, and those of lines
abbrev pub slot_seats : {R : Type 0} → List (Holding R) → ℕ
slot_seats slots = total (λ h. seats_of h.words.seat.view) slots

abbrev pub line_seats : {E M : Type 0} → List (LineView E M) → ℕ
line_seats lines = total (λ line. seats_of line.words.view) lines

module _ {R E M : Type 0} where
  -- The slot at each place has that putter at the order queue of each line, and the line at each place that at the mailbox of
  -- each slot. No putter of these queues stands elsewhere, and none was joined into a getter. Their seats at the meter are all: they
  -- stand for its 4,095.
  pub record AreAllPasses (slots : List (Holding R)) (lines : List (LineView E M)) : Type 0 where
    pub places : AreInPlace slots
    pub peers : Ascend (map (λ line. line.channel.conn.peer) lines)
    pub lanes : (slot : ℕ) (h : Holding R) → slice_get slots slot ≡ Some h → length h.routes ≡ length lines
    pub held : (place : ℕ) (line : LineView E M) → slice_get lines place ≡ Some line → length line.boxes ≡ length slots
    pub orders : (slot place : ℕ) (h : Holding R) (lane : Lane R) → slice_get slots slot ≡ Some h → IsLaneAt h.routes place lane →
        (lane.pass.number ≡ putter_number slot) × (lane.pass.splits ≡ splits_at (length slots) slot)
    pub boxes : (slot place : ℕ) (line : LineView E M) (box : Putter Datagram) → slice_get lines place ≡ Some line → IsBoxOf line.boxes slot box →
        (box.number ≡ putter_number place) × (box.splits ≡ splits_at (length lines) place)
    pub no_order_joined : (place : ℕ) (line : LineView E M) → slice_get lines place ≡ Some line → line.orders.joined ≡ []
    pub seats : slot_seats slots + line_seats lines ≡ 4095
    pub no_box_joined : (slot : ℕ) (h : Holding R) → slice_get slots slot ≡ Some h → h.inbox.get.joined ≡ []
