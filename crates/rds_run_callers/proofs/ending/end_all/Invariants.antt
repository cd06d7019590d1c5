use Rattle.std.proofs.Common.{◌≡◌, vec_len}
use Rattle.rds_run_callers.proofs.Leaving.{Leaves}
use Rattle.rds_run_callers.proofs.ending.end_all.Given as goal

abbrev pub invariant-loop-slot : goal.invariant-loop-slot
invariant-loop-slot g l = Leaves l.fn.states.items l.states.items l.slot l.all_kept.items l.all_closed.items × (l.slot-end ≡ vec_len l.states) × (vec_len l.states ≡ vec_len l.fn.states)
