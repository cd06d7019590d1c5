-- What getters were told of what putters have put. Source: this project's own.
use Rattle.std.specs.Prelude.{◌≡◌, ℕ, List, ◌++◌, Some, map, slice_get}
use Rattle.rds_seats.specs.Views.{Has}
use Rattle.rds_bindtab.specs.Seats.{PortSeat, telling_of}
use Rattle.rds_mail.specs.declared.view.Account.{Account}
use Rattle.rds_mail.specs.Passes.{Putter}
use Rattle.rds_model.specs.declared.order.Datagram.{Datagram}
use Rattle.rds_socket_parts.specs.Lanes.{IsLaneAt, Lane}
use Rattle.rds_line_parts.specs.Boxes.{IsBoxOf}
use Rattle.rds_socket.specs.Holding.{Holding, Open}
use Rattle.rds_line.specs.Line.{LineView}

-- a getter was told of all that the putter has put
abbrev pub IsTold : {T : Type 0} → List (Account T) → Putter T → Type 0
IsTold told p = Has told (λ t. (t.number ≡ p.number) × (t.put ≡ p.put))

-- a seat at the port table was told of the port that another holds
abbrev pub IsPortTold : (seat holder : PortSeat) → Type 0
IsPortTold seat holder = Has seat.view.told (λ t. t ≡ telling_of holder.view)

-- the slots of a host's sockets, and then those that have ended
abbrev pub slots_of : {R : Type 0} → List (Open R) → List (Holding R) → List (Holding R)
slots_of sockets closed = map (λ s. s.own) sockets ++ closed

module _ {R E M : Type 0} where
  -- the line at this place was told of all orders that each slot has put for it
  abbrev pub AreOrdersTold : List (Holding R) → ℕ → LineView E M → Type 0
  AreOrdersTold slots place line = (slot : ℕ) (h : Holding R) (lane : Lane R) → slice_get slots slot ≡ Some h → IsLaneAt h.routes place lane →
      IsTold line.orders.told lane.pass

  -- the slot was told of all datagrams that each line has put into its mailbox
  abbrev pub AreBoxesTold : Holding R → List (LineView E M) → Type 0
  AreBoxesTold h lines = (place : ℕ) (line : LineView E M) (box : Putter Datagram) → slice_get lines place ≡ Some line → IsBoxOf line.boxes h.words.slot box →
      IsTold h.inbox.get.told box

  -- each line was told of all orders that each slot has put for it
  abbrev pub AreAllOrdersTold : List (Holding R) → List (LineView E M) → Type 0
  AreAllOrdersTold slots lines = (place : ℕ) (line : LineView E M) → slice_get lines place ≡ Some line → AreOrdersTold slots place line

  -- each slot was told of all datagrams that each line has put into its mailbox
  abbrev pub AreAllBoxesTold : List (Holding R) → List (LineView E M) → Type 0
  AreAllBoxesTold slots lines = (slot : ℕ) (h : Holding R) → slice_get slots slot ≡ Some h → AreBoxesTold h lines

  -- the seat of each line at the port table was told of the port of each of these slots
  abbrev pub ArePortsTold : List (Holding R) → List (LineView E M) → Type 0
  ArePortsTold slots lines = (slot place : ℕ) (h : Holding R) (line : LineView E M) → slice_get slots slot ≡ Some h → slice_get lines place ≡ Some line →
      IsPortTold line.ports h.ports
