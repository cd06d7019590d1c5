use Rattle.std.proofs.Common.{◌≡◌, ◌++◌, [], All, map, take, drop}
use Rattle.rds_host.specs.Ties.{AreNextOf, lane_way, popped, ways_of}
use Rattle.rds_host.proofs.making.routes.Given as goal

abbrev pub invariant-loop-i : goal.invariant-loop-i
invariant-loop-i l =
    (l.columns ≡ map popped (take l.i l.fn.columns) ++ drop l.i l.fn.columns)
    × AreNextOf l.fn.columns l.routes.items
    × (map lane_way l.routes.items ≡ ways_of (take l.i l.fn.columns))
    × All (λ lane. lane.pass.put ≡ []) l.routes.items
