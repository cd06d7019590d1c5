-- What a line's seats at its host's port table and meter have done. Source: this project's own.
use Rattle.std.specs.Prelude.{◌≡◌, ℕ, ◌<◌, true, List, Option, Some, None, Contains}
use Rattle.rds_wire.specs.declared.frame.Frame.{Frame}
use Rattle.rds_model.specs.declared.entry.Entry.{Entry}
use Rattle.rds_model.specs.declared.entry.Entry.TheVariants.{Pull, Read}
use Rattle.rds_model.specs.declared.entry.Outcome.TheVariants as outcome
use Rattle.rds_model.specs.Owed.{is_map}
use Rattle.rds_cong.specs.Map.{has_port}
use Rattle.rds_bindtab.specs.declared.view.Step.{Step}
use Rattle.rds_bindtab.specs.declared.view.Step.TheVariants.{Claimed, Looked}
use Rattle.rds_bindtab.specs.declared.view.Telling.{Telling}
use Rattle.rds_bindtab.specs.declared.view.View.{View}
use Rattle.rds_meter.specs.declared.view.Step.{Step as MeterStep}
use Rattle.rds_meter.specs.declared.view.Step.TheVariants.{Stored}
use Rattle.rds_meter.specs.Grounds.{HasFoundSet}

-- among the steps is a look at the port that found this, whatever the seat had been told before
abbrev pub HasLooked : ℕ → Option ℕ → List Step → Type 0
HasLooked port found steps = (told : List Telling) × Contains steps (Looked port found told)

-- The steps of a line's seat at the port table are those that its journal tells of: each datagram that was delivered went to the
-- slot that a look at its port had found, which is one of the table's `size` slots; for each that no socket held a look had found
-- none; and no port was claimed.
pub record AreLooksFor (size : ℕ) (past : List Entry) (steps : List Step) : Type 0 where
  pub slots : (stream slot : ℕ) (frame : Frame) → Contains past (Read stream frame (outcome.Slot slot)) →
      HasLooked frame.header.dport (Some slot) steps
  pub below : (stream slot : ℕ) (frame : Frame) → Contains past (Read stream frame (outcome.Slot slot)) → slot < size
  pub none : (stream : ℕ) (frame : Frame) → Contains past (Read stream frame outcome.NoSocket) →
      HasLooked frame.header.dport None steps
  pub claims : (port slot found : ℕ) → Contains steps (Claimed port slot found) → ⊥

-- a seat was told this, and had been told it before each look that it has made
pub record WasAlwaysTold (telling : Telling) (v : View) : Type 0 where
  pub tells : Contains v.told telling
  pub first : (port : ℕ) (found : Option ℕ) (told : List Telling) → Contains v.steps (Looked port found told) → Contains told telling

-- no receive limit was stored by these steps of a seat at the meter
abbrev pub StoresNothing : List MeterStep → Type 0
StoresNothing steps = (word limit : ℕ) → Contains steps (Stored word limit) → ⊥

-- a congestion map with the port was pulled
abbrev pub HasPulled : ℕ → List Entry → Type 0
HasPulled port past = (stream : ℕ) × (frame : Frame) × Contains past (Pull stream frame) × (is_map frame ≡ true) × (has_port frame.payload port ≡ true)

-- each port of the maps that were pulled was found set by a load of its word
abbrev pub AreFoundSet : List Entry → List MeterStep → Type 0
AreFoundSet past steps = (port : ℕ) → port < 65536 → HasPulled port past → HasFoundSet port steps
