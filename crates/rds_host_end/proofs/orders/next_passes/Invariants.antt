use Rattle.std.proofs.Common.{◌≡◌, ◌++◌, map, take, drop}
use Rattle.rds_host_end.specs.Columns.{column, passes_of, rows_left}
use Rattle.rds_host_end.specs.Shown.{HaveLookedAt}
use Rattle.rds_host_end.proofs.orders.next_passes.Given as goal

abbrev pub invariant-loop-i : goal.invariant-loop-i
invariant-loop-i l =
    (l.writer ≡ l.fn.writer)
    × (rows_left l.routes ≡ map (drop 1) (take l.i (rows_left l.fn.routes)) ++ drop l.i (rows_left l.fn.routes))
    × (l.passes.items ≡ passes_of (column 0 (take l.i (rows_left l.fn.routes))))
    × HaveLookedAt l.fn.writer.published (column 0 (take l.i (rows_left l.fn.routes)))
