use Rattle.std.proofs.Common.{◌≡◌, All}
use Rattle.rds_host_end.specs.Heard.{FitsLooks}
use Rattle.rds_host_end.proofs.owners.show_slots.Given as goal

abbrev pub invariant-loop-slot : goal.invariant-loop-slot
invariant-loop-slot l = (l.seen ≡ l.fn.seen) × All (λ slot. FitsLooks l.fn.seen.view.steps slot.view) l.yielded
