use Rattle.std.proofs.Common.{◌≡◌, List, ◌++◌, All, sym, ap, subst, ◌∙◌}
use Rattle.std.specs.Arc.{arc_value}
use Rattle.rds_seats.specs.Views.{Table, total}
use Rattle.rds_meter.specs.Grounds.{AreRaisedAmong, seats_of}
use Rattle.rds_meter.specs.Seats.{MeterSeat}
use Rattle.rds_host_end.proofs.Owning.{some_there}
use Rattle.rds_host_end.proofs.Raising.{at_last, total_both, with_all}
use Rattle.rds_host_end.proofs.grounds.find_grounds.Goals as goal

pub gather-requires-clause-tables : goal.gather-requires-clause-tables
gather-requires-clause-tables c =
    let slots = c.args.slots.items in
    let lines = c.args.lines.items in
    let front = c.pop.new.self.items in
    let last = c.in-Some.last in
    let whole = with_all slots lines front last c.in-Some.ensures.items c.add_lines.new.seats.items c.push.new.self.items c.into_parts-meter.result.1
    c.in_ok-add_lines.ensures c.into_parts-meter.ensures.seat c.in_ok-push.ensures.items in
    let meter = arc_value c.into_parts-meter.result.0 in
    subst (λ (l : List MeterSeat). All (λ (h : MeterSeat). h.table ≡ c.deref.result.now) l) (sym whole)
    (subst (λ (t : Table). All (λ (h : MeterSeat). h.table ≡ t) (slots ++ lines)) (sym c.deref.ensures)
    (at_last slots lines front last c.in-Some.ensures.items meter c.into_parts-meter.ensures.table
    (some_there slots c.args.slots.len c.args.slots.ok.0 (sym c.is_empty.ensures ∙ c.if-is_empty.false)) c.requires.tables))

pub gather-requires-clause-all : goal.gather-requires-clause-all
gather-requires-clause-all c =
    let slots = c.args.slots.items in
    let lines = c.args.lines.items in
    let whole = with_all slots lines c.pop.new.self.items c.in-Some.last c.in-Some.ensures.items c.add_lines.new.seats.items c.push.new.self.items c.into_parts-meter.result.1
    c.in_ok-add_lines.ensures c.into_parts-meter.ensures.seat c.in_ok-push.ensures.items in
    ap (λ (l : List MeterSeat). total (λ (h : MeterSeat). seats_of h.view) l) whole
    ∙ (total_both (λ (h : MeterSeat). seats_of h.view) slots lines ∙ c.requires.all)

-- refused where a seat isn't joined
pub returns : goal.returns
returns c some any =
    let slots = c.args.slots.items in
    let lines = c.args.lines.items in
    let whole = with_all slots lines c.pop.new.self.items c.in-Some.last c.in-Some.ensures.items c.add_lines.new.seats.items c.push.new.self.items c.into_parts-meter.result.1
    c.in_ok-add_lines.ensures c.into_parts-meter.ensures.seat c.in_ok-push.ensures.items in
    subst AreRaisedAmong whole c.gather.ensures
