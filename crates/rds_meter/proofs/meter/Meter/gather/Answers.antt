use Rattle.std.proofs.Common.{◌≡◌, ◌∙◌, ap, subst}
use Rattle.rds_meter.specs.Seats.{MeterSeat}
use Rattle.rds_meter.specs.Grounds.{seats_of}
use Rattle.rds_meter.specs.Shared.{Alone}
use Rattle.rds_meter.proofs.AllJoined.{raised_among, stands_for_all}
use Rattle.rds_meter.proofs.meter.Meter.gather.Goals as goal

-- refused where a seat isn't joined
pub returns : goal.returns
returns c =
    let seats = c.args.seats.items in
    let front = c.pop.new.self.items in
    let all = c.join_all.new.into in
    let number = stands_for_all seats front c.in-Some.last all c.in-Some.ensures.items c.join_all.ensures c.requires.all in
    let same : c.learn.new.seat ≡ all = c.learn.ensures.same in
    let alone = c.learn.ensures.alone (ap (λ (h : MeterSeat). seats_of h.view) same ∙ number) in
    raised_among seats front c.in-Some.last all c.in-Some.ensures.items c.join_all.ensures (subst (λ (h : MeterSeat). Alone h.view) same alone)
