-- Private: it serves the contracts of the private functions that do the leading binds and run the callers. Source: this project's own.
use Rattle.std.specs.Prelude.{◌≡◌, ℕ, List, Some, drop, length, slice_get, take}
use Rattle.rds_fmap.specs.Readers.{WriterView}
use Rattle.rds_line.specs.Line.{LineView}
use Rattle.rds_run_callers.specs.Places.{CallerView, PlacesKeep}
use Rattle.rds_script.specs.declared.script.Placed.{Placed}
use Rattle.rds_run_settling.specs.Tied.{ArePortsTold}
use Rattle.rds_run_hosts.specs.Obeyed.{HasObeyed, after_binds, leading_binds}

-- a script begins with so many binds, and what follows them begins with none
pub record AreLeading (count : ℕ) (commands : List Placed) : Type 0 where
  pub first : take count commands ≡ leading_binds commands
  pub rest : drop count commands ≡ after_binds commands

-- the callers of the same hosts, each of which has the same slots
pub record CallersKeep (old new : List CallerView) : Type 0 where
  pub count : length new ≡ length old
  pub each : (host : ℕ) (caller after : CallerView) → slice_get old host ≡ Some caller → slice_get new host ≡ Some after →
      PlacesKeep caller.places after.places

-- nothing became of the slots of any caller
pub record SamePlaces (old new : List CallerView) : Type 0 where
  pub count : length new ≡ length old
  pub each : (host : ℕ) (caller after : CallerView) → slice_get old host ≡ Some caller → slice_get new host ≡ Some after →
      after.places ≡ caller.places

-- the seats of the lines of each host were told of the port of each socket of the host that is bound
abbrev pub AllPortsTold : {E : Type 0} → List CallerView → List (List (LineView E WriterView)) → Type 0
AllPortsTold {E} callers rows = (host : ℕ) (caller : CallerView) (row : List (LineView E WriterView)) → slice_get callers host ≡ Some caller →
    slice_get rows host ≡ Some row → ArePortsTold caller.places row

-- the caller of a host did its own of these commands, one after the other, and has the same slots
pub record HasCalled (host : ℕ) (commands : List Placed) (caller after : CallerView) : Type 0 where
  pub obeyed : HasObeyed host commands caller.places after.places
  pub keeps : PlacesKeep caller.places after.places

-- each caller with the number of its host
pub record AreJobs (callers : List CallerView) (jobs : List (ℕ × CallerView)) : Type 0 where
  pub count : length jobs ≡ length callers
  pub each : (host : ℕ) (job : ℕ × CallerView) → slice_get jobs host ≡ Some job → (job.0 ≡ host) × (slice_get callers host ≡ Some job.1)
