use Rattle.std.proofs.Common.{◌≡◌, vec_len}
use Rattle.rds_run_callers.specs.States.{is_vacant}
use Rattle.rds_run_callers.proofs.Searches.{NoneBelow}
use Rattle.rds_run_callers.proofs.finding.find_vacant.Given as goal

abbrev pub invariant-loop-slot : goal.invariant-loop-slot
invariant-loop-slot l = NoneBelow is_vacant l.fn.slots.states.items l.slot × (l.slot-end ≡ vec_len l.fn.slots.states)
