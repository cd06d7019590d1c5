use Rattle.std.proofs.Common.{◌-◌, ◌≤◌, length}
use Rattle.rds_script_pieces.proofs.cutting.head_and_rest.Given as goal

abbrev pub invariant-loop-end : goal.invariant-loop-end
invariant-loop-end l = l.from ≤ length l.text

abbrev pub decreases-loop-end : goal.decreases-loop-end
decreases-loop-end l = length l.text - l.from
