use Rattle.std.proofs.Common.{arith}
use Rattle.rds_meter.proofs.Seated.{same_table}
use Rattle.rds_meter.proofs.Joins.{joins}
use Rattle.rds_meter.proofs.meter.Meter.join.Goals as goal

pub join_seat-requires : goal.join_seat-requires
join_seat-requires c =
    let of = same_table _ _ _ _ _ _ _ c.into.view_is c.self.view_is c.requires.0 in
    let from = same_table _ _ _ _ _ _ _ c.from.view_is c.self.view_is c.requires.1 in
    (of, from, c.from.invariant.1, (let w = c.self.invariant.0 in omega arith), joins _ _ c.into.inside.seat.me.0 c.from.inside.seat.me.0 c.into.invariant.0)
