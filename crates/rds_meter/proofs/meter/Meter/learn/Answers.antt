use Rattle.std.proofs.Common.{arith}
use Rattle.rds_meter.proofs.Seated.{same_table}
use Rattle.rds_meter.proofs.Loading.{learns}
use Rattle.rds_meter.proofs.meter.Meter.learn.Goals as goal

pub load-requires : goal.load-requires
load-requires c =
    let of = same_table _ _ _ _ _ _ _ c.seat.view_is c.self.view_is c.requires in
    (of, (let w = c.self.invariant.0 in omega arith), learns _ _ c.seat.inside.seat.me)
