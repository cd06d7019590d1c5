-- Private: it serves the contract of the private call that joins seats, and its proof. This project's own.
use Rattle.std.specs.Prelude.{◌≡◌, ◌⊎◌, ℕ, ◌+◌, List, Contains}
use Rattle.rds_seats.specs.Views.{total}
use Rattle.rds_meter.specs.declared.view.View.{View}
use Rattle.rds_meter.specs.declared.view.Check.{Check}
use Rattle.rds_meter.specs.declared.view.Step.{Step}
use Rattle.rds_meter.specs.Places.{part}
use Rattle.rds_meter.specs.Seats.{MeterSeat}
use Rattle.rds_meter.specs.Grounds.{SomeOf, seats_of}

-- what the first seat or one of the others knows
abbrev pub OneOf : MeterSeat → List MeterSeat → (View → Type 0) → Type 0
OneOf first others P = P first.view ⊎ SomeOf others P

-- The seat has all that the first one and the others had: it stands for as many, has added as much, and has made their steps and
-- checks and no more.
pub record IsJoinOf (first : MeterSeat) (others : List MeterSeat) (all : MeterSeat) : Type 0 where
  pub table_is : all.table ≡ first.table
  pub seats : seats_of all.view ≡ seats_of first.view + total (λ h. seats_of h.view) others
  pub parts : (word : ℕ) → part word all.view.steps ≡ part word first.view.steps + total (λ h. part word h.view.steps) others
  pub has_steps : (step : Step) → OneOf first others (λ v. Contains v.steps step) → Contains all.view.steps step
  pub steps : (step : Step) → Contains all.view.steps step → OneOf first others (λ v. Contains v.steps step)
  pub checks : (check : Check) → Contains all.view.checks check → OneOf first others (λ v. Contains v.checks check)
