use Rattle.std.proofs.Common.{true, refl, sym, ap, ◌∙◌, subst, arith}
use Rattle.rds_meter.specs.declared.view.View.{View}
use Rattle.rds_meter.specs.declared.mark.Mark.{Mark}
use Rattle.rds_meter.specs.Seats.{MeterSeat, OpensWith, after_load}
use Rattle.rds_meter.specs.CheckLaws.{opens_with}
use Rattle.rds_meter.proofs.tests.deliver.Goals as goal

pub raise-requires-clause-check : goal.raise-requires-clause-check
raise-requires-clause-check c =
    let v = c.args.seat.now.view in
    let put = c.put_add-put.result in
    let limit = c.limit-limit.result in
    let taken = c.taken-taken.result in
    let mark : Mark = record { port = c.args.port; set = true; put = put; taken = taken; limit = limit } in
    let added = ap (λ (h : MeterSeat). h.view) c.put_add-put.ensures.seat in
    let limited = ap (λ (h : MeterSeat). h.view) c.limit-limit.ensures ∙ ap (λ (x : View). after_load x 0 limit) added in
    let done = ap (λ (h : MeterSeat). h.view) c.taken-taken.ensures.seat ∙ ap (λ (x : View). after_load x 3072 taken) limited in
    subst (λ (x : View). OpensWith x mark) (sym done) (opens_with v 0 c.args.n put limit taken (omega arith) mark refl refl refl (sym c.is_over.ensures ∙ c.if-is_over.true))
