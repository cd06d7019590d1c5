use Rattle.std.proofs.Common.{◌<◌, subst}
use Rattle.std.specs.Arc.{arc_value}
use Rattle.rds_seats.specs.Views.{Table}
use Rattle.rds_host.proofs.Drawn.{draw_gives, draw_keeps, slot_at}
use Rattle.rds_host.proofs.seats.Seats.draw.Goals as goal

pub invariant_of-self : goal.invariant_of-self
invariant_of-self c =
    let s = c.args.self.now in
    record { free = draw_keeps (arc_value s.table) (arc_value s.meter) s.seat s.own s.free c.in-Ok.slot c.draw.new.seat c.in-Ok.ensures.ok.1 c.split_slot-seat.new.seat c.split-own.new.seat c.split_slot-seat.ensures.seat c.split-own.ensures.seat }

pub invariant_of-result : goal.invariant_of-result
invariant_of-result c =
    let s = c.args.self.now in
    let under = subst (λ (t : Table). c.in-Ok.slot < t.slots) c.deref.ensures c.in-Ok.ensures.ok.0 in
    record {
      of_slot = slot_at _ _ _ _ _ _ c.in_ok-table.ensures.table c.in_ok-table.ensures.meter
          (draw_gives (arc_value s.table) (arc_value s.meter) s.seat s.own s.free c.in-Ok.slot c.draw.new.seat c.in-Ok.ensures.ok.1 c.split_slot-seat.result c.split-own.result c.own.new.seat
          c.in-Ok.ensures.slot under c.split_slot-seat.ensures.new c.split-own.ensures.new c.own.ensures);
    }
