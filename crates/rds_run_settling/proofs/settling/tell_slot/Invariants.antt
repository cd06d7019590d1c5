use Rattle.std.proofs.Common.{◌≡◌, Some, slice_get, slice_set}
use Rattle.rds_run_callers.specs.Places.{Place, holding_of}
use Rattle.rds_run_settling.specs.Steps.{AreLinesToldTo}
use Rattle.rds_run_settling.specs.Tied.{PlaceHears}
use Rattle.rds_run_settling.proofs.settling.tell_slot.Given as goal

abbrev pub invariant-loop-place : goal.invariant-loop-place
invariant-loop-place g l =
    (l.lines ≡ l.fn.lines)
    × ((p : Place) → slice_get l.fn.caller.places l.fn.slot ≡ Some p → (q : Place) × (l.caller.places ≡ slice_set l.fn.caller.places l.fn.slot q)
    × PlaceHears p q × AreLinesToldTo l.place l.fn.lines (holding_of q))
