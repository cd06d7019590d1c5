use Rattle.std.proofs.Common.{rules, ap, arith}
use Rattle.rds_meter.specs.Places.{part}
use Rattle.rds_meter.specs.Seats.{MeterSeat}
use Rattle.rds_meter.proofs.Seated.{same_table}
use Rattle.rds_meter.proofs.Adding.{adds}
use Rattle.rds_meter.proofs.meter.Meter.add.Goals as goal

pub fetch_add-requires : goal.fetch_add-requires
fetch_add-requires c =
    let of = same_table _ _ _ _ _ _ _ c.seat.view_is c.self.view_is c.requires.table in
    let word = c.requires.word in
    let mine = ap (λ (h : MeterSeat). part c.args.word h.view.steps) c.seat.view_is in
    let n = c.from-n.ensures in
    let few = c.requires.part in
    (of, (let w = c.self.invariant.0 in omega arith), adds _ _ c.args.word c.from-n.result c.seat.inside.seat.me c.seat.invariant.0 word.0 word.1 (omega arith))

pub returns-clause-seat : goal.returns-clause-seat
returns-clause-seat c = search rules

pub returns-clause-part : goal.returns-clause-part
returns-clause-part c = search rules
