-- What a line's seat at its host's meter keeps between its calls, and what steps leave it with. Source: this project's own.
use Rattle.std.specs.Prelude.{◌≡◌, ℕ, ◌+◌, ◌==◌, if◌then◌else◌, List, [], ◌++◌}
use Rattle.rds_meter.specs.declared.view.View.{View}
use Rattle.rds_meter.specs.declared.view.Step.{Step}
use Rattle.rds_meter.specs.declared.view.Stage.TheVariants.{Idle}
use Rattle.rds_meter.specs.Places.{part}

-- no check is under way, and none has yet to raise a bit
pub record IsAtRest (v : View) : Type 0 where
  pub stage : v.stage ≡ Idle
  pub pending : v.pending ≡ []

-- the view after steps that are of no check
abbrev pub after_steps : View → List Step → View
after_steps v steps = record v { steps = v.steps ++ steps }

-- n was added to this word by the seat, and nothing to any other
abbrev pub AddsTo : ℕ → ℕ → View → View → Type 0
AddsTo word n old new = (w : ℕ) → part w new.steps ≡ part w old.steps + (if word == w then n else 0)

-- nothing was added to any word by the seat
abbrev pub AddsNothing : View → View → Type 0
AddsNothing old new = (w : ℕ) → part w new.steps ≡ part w old.steps
