use Rattle.std.proofs.Common.{◌+◌, ◌-◌, min, length}
use Rattle.rds_msgs_lists.specs.Lists.{of_socket}
use Rattle.rds_msgs.proofs.Walking.{Walks}
use Rattle.rds_msgs.proofs.slot_walk.withdraw.Given as goal

abbrev pub invariant-loop-next : goal.invariant-loop-next
invariant-loop-next g l = Walks l.items l.slots l.slot l.target l.initial.lists l.fn.mark l.initial.steps l.lists l.left.mark l.next l.left.bytes l.steps

-- what is left of the slot's list
abbrev pub decreases-loop-next : goal.decreases-loop-next
decreases-loop-next g l = (l.initial.steps + length (of_socket (min l.slot l.slots) l.initial.lists.places)) - l.steps
