use Rattle.std.proofs.Common.{◌≡◌, ◌+◌, ap, ◌∙◌, subst}
use Rattle.rds_meter.specs.Seats.{MeterSeat}
use Rattle.rds_meter.specs.Shared.{Alone}
use Rattle.rds_meter.proofs.Opening.{alone}
use Rattle.rds_meter.proofs.meter.Meter.close.Goals as goal

pub returns-clause-alone : goal.returns-clause-alone
returns-clause-alone c all =
    let last = c.close_with.ensures.values.2 in
    let s = last.0 in
    let v = c.seat.inside.seat.me.0 in
    let is = ap (λ (h : MeterSeat). h.view) c.seat.view_is in
    let number : v.weight + v.splits ≡ 4095 = ap (λ (h : MeterSeat). h.view.weight + h.view.splits) c.seat.view_is ∙ all in
    subst Alone is (s.words, alone s.words s.views c.seat.inside.seat.id v last.1.0 last.1.1 number)
