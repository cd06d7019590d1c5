use Rattle.std.proofs.Common.{◌≡◌, ◌++◌, map, take, drop}
use Rattle.rds_host_end.specs.Columns.{column, rows_left}
use Rattle.rds_host_end.proofs.receipts.next_passes.Given as goal

abbrev pub invariant-loop-i : goal.invariant-loop-i
invariant-loop-i l =
    (rows_left l.boxes ≡ map (drop 1) (take l.i (rows_left l.fn.boxes)) ++ drop l.i (rows_left l.fn.boxes))
    × (l.passes.items ≡ column 0 (take l.i (rows_left l.fn.boxes)))
