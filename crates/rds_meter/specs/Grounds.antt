-- Why bits of a host's congestion map were found set. This project's own.
use Rattle.std.specs.Prelude.{◌≡◌, ℕ, ◌+◌, ◌%◌, ◌<◌, List, Some, Contains}
use Rattle.std.specs.Int.{bit_at}
use Rattle.rds_seats.specs.Views.{total}
use Rattle.rds_model.specs.declared.entry.TheConstants.{MAX_SLOTS}
use Rattle.rds_meter.specs.declared.view.View.{View}
use Rattle.rds_meter.specs.declared.view.Check.{Check}
use Rattle.rds_meter.specs.declared.view.Step.{Step}
use Rattle.rds_meter.specs.declared.view.Step.TheVariants.{Loaded}
use Rattle.rds_meter.specs.Places.{map_word, put_word, part}
use Rattle.rds_meter.specs.Seats.{MeterSeat}
use Rattle.rds_meter.specs.Shared.{HasStored}

-- among these steps is a load of the port's word that found the port's bit set
abbrev pub HasFoundSet : ℕ → List Step → Type 0
HasFoundSet port steps = (found : ℕ) × Contains steps (Loaded (map_word port) found) × (bit_at found (port % 64) ≡ 1)

-- for how many seats a seat stands, with those that may still be split off it
abbrev pub seats_of : View → ℕ
seats_of v = v.weight + v.splits

-- these seats are all of their meter's: they stand for its 4,095
abbrev pub AreAllSeats : List MeterSeat → Type 0
AreAllSeats seats = total (λ h. seats_of h.view) seats ≡ 4095

-- one of these seats knows such a thing
abbrev pub SomeOf : List MeterSeat → (View → Type 0) → Type 0
SomeOf seats P = (h : MeterSeat) × Contains seats h × P h.view

-- A check of one of these seats raised the port's bit. It was a check of a slot for which one of them has stored a limit, and all of
-- them have put more bytes than that into the slot's mailbox.
pub record IsRaisedAmong (seats : List MeterSeat) (port : ℕ) : Type 0 where
  pub check : Check
  pub made : SomeOf seats (λ v. Contains v.checks check)
  pub raised : check.raised ≡ Some port
  pub small : check.slot < MAX_SLOTS
  pub stored : SomeOf seats (HasStored check.slot check.limit)
  pub above : check.limit < total (λ h. part (put_word check.slot) h.view.steps) seats

-- each bit that a load of one of these seats found set was raised so
abbrev pub AreRaisedAmong : List MeterSeat → Type 0
AreRaisedAmong seats = (port : ℕ) → port < 65536 → SomeOf seats (λ v. HasFoundSet port v.steps) → IsRaisedAmong seats port
