-- Why the lines of a host pulled maps with a port. Source: this project's own.
use Rattle.std.specs.Prelude.{◌≡◌, ℕ, ◌<◌, ◌≤◌, List, Some, Contains, length, slice_get}
use Rattle.rds_seats.specs.Views.{total}
use Rattle.rds_wire.specs.declared.frame.Frame.{Frame}
use Rattle.rds_model.specs.declared.entry.Entry.{Entry}
use Rattle.rds_model.specs.declared.entry.Entry.TheVariants.{Read}
use Rattle.rds_model.specs.declared.entry.Outcome.TheVariants as outcome
use Rattle.rds_model.specs.Deliveries.{put_bytes}
use Rattle.rds_meter.specs.Shared.{HasStored}
use Rattle.rds_socket.specs.Holding.{Holding}
use Rattle.rds_line.specs.Line.{LineView, line_past}
use Rattle.rds_line.specs.Seats.{HasPulled}

-- the journal delivered a datagram at this port to the slot
abbrev pub HasDelivered : (port slot : ℕ) → List Entry → Type 0
HasDelivered port slot past = (stream : ℕ) × (frame : Frame) × Contains past (Read stream frame (outcome.Slot slot)) × (frame.header.dport ≡ port)

module _ {R E M : Type 0} where
  -- A journal delivered a datagram at this port to some slot, and all journals together delivered more bytes to it than a receive limit
  -- that a slot of the host has stored for it.
  pub record IsGrounded (slots : List (Holding R)) (lines : List (LineView E M)) (port : ℕ) : Type 0 where
    pub slot : ℕ
    pub place : ℕ
    pub line : LineView E M
    pub stands : slice_get lines place ≡ Some line
    pub delivered : HasDelivered port slot (line_past line)
    pub limit : ℕ
    pub owner : ℕ
    pub held : Holding R
    pub owned : slice_get slots owner ≡ Some held
    pub stored : HasStored slot limit held.words.seat.view
    pub above : limit < total (λ l. put_bytes slot (line_past l)) lines

  -- each port of the maps that a line pulled is so, where the host has slots
  abbrev pub AreMapsGrounded : List (Holding R) → List (LineView E M) → Type 0
  AreMapsGrounded slots lines = 1 ≤ length slots → (place : ℕ) (line : LineView E M) → slice_get lines place ≡ Some line →
      (port : ℕ) → port < 65536 → HasPulled port (line_past line) → IsGrounded slots lines port
