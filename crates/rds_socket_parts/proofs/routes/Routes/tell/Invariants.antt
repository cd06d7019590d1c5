use Rattle.std.proofs.Common.{◌≡◌, ◌≤◌, length}
use Rattle.rds_model.specs.declared.order.Order.TheVariants as order
use Rattle.rds_socket_parts.specs.Lanes.{ArePut, RoutesStay}
use Rattle.rds_socket_parts.proofs.routes.Routes.tell.Given as goal

abbrev pub invariant-loop-place : goal.invariant-loop-place
invariant-loop-place g l = (l.place-end ≡ length l.initial.self)
    × ArePut l.fn.from l.place (order.CloseSocket l.fn.slot) l.initial.self l.self
    × RoutesStay g.R.MapReader.pair g.R.MapReader.has_seen l.initial.self l.self
