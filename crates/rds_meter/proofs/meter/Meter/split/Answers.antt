use Rattle.std.proofs.Common.{ap, arith}
use Rattle.rds_meter.specs.Seats.{MeterSeat}
use Rattle.rds_meter.proofs.Seated.{same_table}
use Rattle.rds_meter.proofs.Joins.{splits_off}
use Rattle.rds_meter.proofs.meter.Meter.split.Goals as goal

pub split_seat-new-requires : goal.split_seat-new-requires
split_seat-new-requires c =
    let of = same_table _ _ _ _ _ _ _ c.seat.view_is c.self.view_is c.requires.table in
    let left = ap (λ (h : MeterSeat). h.view.splits) c.seat.view_is in
    (of, (let w = c.self.invariant.0 in omega arith), splits_off _ c.seat.inside.seat.me.0 c.seat.invariant.0 (let r = c.requires.splits in omega arith))
