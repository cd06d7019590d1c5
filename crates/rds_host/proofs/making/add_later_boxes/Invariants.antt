use Rattle.std.proofs.Common.{◌≡◌, suc, ◌++◌, length, take, drop}
use Rattle.rds_host.specs.Ties.{with_boxes}
use Rattle.rds_host.proofs.Pushing.{after_splits}
use Rattle.rds_host.proofs.making.add_later_boxes.Given as goal

abbrev pub invariant-loop-i : goal.invariant-loop-i
invariant-loop-i l =
    (l.columns ≡ with_boxes l.fn.mail.value.line (suc (length l.fn.columns)) 1 (take l.i l.fn.columns) ++ drop l.i l.fn.columns)
    × (l.put ≡ after_splits l.fn.mail.value.line l.i)
