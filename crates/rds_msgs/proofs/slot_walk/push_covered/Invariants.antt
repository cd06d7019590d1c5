use Rattle.std.proofs.Common.{◌-◌, length}
use Rattle.rds_msgs.specs.Kept.{count_before}
use Rattle.rds_msgs.proofs.Visiting.{Visits}
use Rattle.rds_msgs.proofs.slot_walk.push_covered.Given as goal

abbrev pub invariant-loop-next : goal.invariant-loop-next
invariant-loop-next l = Visits l.items l.slots l.slot l.target l.lists.places l.fn.out.items l.next l.out.items

abbrev pub decreases-loop-next : goal.decreases-loop-next
decreases-loop-next l = length l.lists.places - count_before l.next l.lists.places
