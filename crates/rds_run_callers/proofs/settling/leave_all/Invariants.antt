use Rattle.std.proofs.Common.{◌≡◌, map, vec_len}
use Rattle.std.specs.Option.{option_map}
use Rattle.rds_run_callers.specs.Places.{spared}
use Rattle.rds_run_callers.specs.States.{shown}
use Rattle.rds_run_callers.proofs.Sparing.{part}
use Rattle.rds_run_callers.proofs.settling.leave_all.Given as goal

abbrev pub invariant-loop-slot : goal.invariant-loop-slot
invariant-loop-slot l = (map shown l.slots.states.items ≡ part (option_map spared) l.slot (map shown l.fn.slots.states.items)) × (l.slot-end ≡ vec_len l.slots.states) × (vec_len l.slots.states ≡ vec_len l.fn.slots.states)
