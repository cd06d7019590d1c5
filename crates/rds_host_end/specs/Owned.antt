-- Which slot had claimed the port of each datagram that the lines of a host delivered, and at which ports a line found a slot whenever it
-- looked. Source: this project's own.
use Rattle.std.specs.Prelude.{◌≡◌, ◌≢◌, ℕ, List, Some, Contains, slice_get}
use Rattle.rds_wire.specs.declared.frame.Frame.{Frame}
use Rattle.rds_model.specs.declared.entry.Entry.TheVariants.{Read}
use Rattle.rds_model.specs.declared.entry.Outcome.TheVariants as outcome
use Rattle.rds_bindtab.specs.Seats.{port_of, telling_of}
use Rattle.rds_bindtab.specs.Shared.{HasClaimed}
use Rattle.rds_socket.specs.Holding.{Holding}
use Rattle.rds_line.specs.Line.{LineView, line_past}
use Rattle.rds_line.specs.Seats.{WasAlwaysTold}

-- Each datagram that the journal of a line delivered went to a slot of the host, which has claimed the port that it was sent to.
abbrev pub AreOwned : {R E M : Type 0} → List (Holding R) → List (LineView E M) → Type 0
AreOwned {R} {E} {M} slots lines = (place : ℕ) (line : LineView E M) → slice_get lines place ≡ Some line → (stream slot : ℕ) (f : Frame) →
    Contains (line_past line) (Read stream f (outcome.Slot slot)) → (h : Holding R) × (slice_get slots slot ≡ Some h) × HasClaimed f.header.dport slot h.ports.view

-- Where the seat of a line had been told before each of its looks of the port that a slot holds, the line found the slot there: no datagram that
-- was sent to this port found no socket.
abbrev pub AreFound : {R E M : Type 0} → List (Holding R) → List (LineView E M) → Type 0
AreFound {R} {E} {M} slots lines = (place slot : ℕ) (line : LineView E M) (h : Holding R) → slice_get lines place ≡ Some line → slice_get slots slot ≡ Some h →
    WasAlwaysTold (telling_of h.ports.view) line.ports.view → (stream : ℕ) (f : Frame) → Contains (line_past line) (Read stream f outcome.NoSocket) →
    f.header.dport ≢ port_of h.ports.view
