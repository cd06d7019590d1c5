use Rattle.std.proofs.Common.{◌≡◌, ℕ, ◌<◌, Some, slice_get}
use Rattle.rds_host.specs.Telling.{AreBoxesTold}
use Rattle.rds_run_callers.specs.Places.{Place, holding_of}
use Rattle.rds_run_settling.specs.Tied.{PlacesHear}
use Rattle.rds_run_settling.proofs.settling.settle_slots.Given as goal

abbrev pub invariant-loop-slot : goal.invariant-loop-slot
invariant-loop-slot g l =
    (l.lines ≡ l.fn.lines) × PlacesHear l.fn.caller.places l.caller.places
    × ((slot : ℕ) (p : Place) → slot < l.slot → slice_get l.caller.places slot ≡ Some p → AreBoxesTold (holding_of p) l.lines)
