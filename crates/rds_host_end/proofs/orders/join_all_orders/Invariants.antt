use Rattle.std.proofs.Common.{◌≡◌, length, map, drop}
use Rattle.rds_socket_parts.specs.Lanes.{IsOf}
use Rattle.rds_host_end.specs.Joins.{slot_of_order}
use Rattle.rds_host_end.specs.Columns.{AtEachPlace, passes_of, rows_left}
use Rattle.rds_host_end.specs.Shown.{HaveLookedAt, ShowsAllPuts}
use Rattle.rds_host_end.proofs.orders.join_all_orders.Given as goal

abbrev pub invariant-loop-line : goal.invariant-loop-line
invariant-loop-line g l =
    (rows_left l.routes ≡ map (drop (length l.yielded)) (rows_left l.fn.routes))
    × AtEachPlace (λ line lanes. ShowsAllPuts slot_of_order IsOf line.0 (passes_of lanes)) l.yielded (rows_left l.fn.routes)
    × AtEachPlace (λ line lanes. HaveLookedAt line.1.published lanes) l.yielded (rows_left l.fn.routes)
