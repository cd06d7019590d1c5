use Rattle.std.proofs.Common.{ap, ◌∙◌, arith}
use Rattle.rds_meter.specs.Seats.{MeterSeat}
use Rattle.rds_meter.proofs.Seated.{same_table}
use Rattle.rds_meter.proofs.Adding.{stores}
use Rattle.rds_meter.proofs.meter.Meter.limit_set.Goals as goal

pub store-requires : goal.store-requires
store-requires c =
    let of = same_table _ _ _ _ _ _ _ c.seat.view_is c.self.view_is c.requires.table in
    let from = c.from.ensures in
    let small = c.seat.invariant.2 c.args.slot (ap (λ (h : MeterSeat). h.slot) c.seat.view_is ∙ c.requires.slot) in
    (of, (let w = c.self.invariant.0 in omega arith), stores _ _ _ _ c.seat.inside.seat.me c.seat.invariant.0 (omega arith))
