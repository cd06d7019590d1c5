-- How freed bytes go from a connection to the meter of its host. Source: this project's own.
use Rattle.std.specs.Prelude.{◌≡◌, ℕ, ◌<◌, ◌≤◌, List, All, slice_index}
use Rattle.rds_meter.specs.declared.view.Step.{Step}
use Rattle.rds_meter.specs.declared.view.Step.TheVariants.{Added, Stored, Loaded, Raised, Lowered, Bumped}
use Rattle.rds_meter.specs.Places.{freed_word, part}
use Rattle.rds_meter.specs.Seats.{MeterSeat, knowing}
use Rattle.rds_line_parts.specs.Words.{after_steps}

-- the step adds to the freed word of some slot
abbrev pub IsFreeing : Step → Type 0
IsFreeing (Added word amount after) = (1024 ≤ word) × (word < 2048)
IsFreeing (Stored word limit) = ⊥
IsFreeing (Loaded word found) = ⊥
IsFreeing (Raised port) = ⊥
IsFreeing (Lowered port) = ⊥
IsFreeing (Bumped after) = ⊥

-- for each slot its freed bytes were added to its freed word, and no other step was made
pub record IsRelief (freed : List ℕ) (old new : MeterSeat) : Type 0 where
  pub steps : List Step
  pub seat : new ≡ knowing old (after_steps old.view steps)
  pub only : All IsFreeing steps
  pub each : (slot : ℕ) → part (freed_word slot) steps ≡ slice_index freed slot
