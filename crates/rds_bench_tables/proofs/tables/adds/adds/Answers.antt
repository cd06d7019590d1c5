use Rattle.std.proofs.Common.{ap, ◌∙◌, arith}
use Rattle.rds_meter.specs.Places.{part}
use Rattle.rds_meter.specs.Seats.{MeterSeat}
use Rattle.rds_meter.specs.PartLaws.{part-after_add}
use Rattle.rds_bench_tables.proofs.tables.adds.adds.Goals as goal

pub loop-preserved : goal.loop-preserved
loop-preserved c =
    let i = c.loop.invariant in
    let e = c.put_add.ensures.seat in
    let p = part-after_add c.loop.seat.view 2048 1 c.put_add.result in
    let s = ap (λ (h : MeterSeat). part 2048 h.view.steps) e in
    let m = i.part in
    record { table = ap (λ (h : MeterSeat). h.table) e ∙ i.table; part = omega arith }
