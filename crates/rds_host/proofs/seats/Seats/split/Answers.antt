use Rattle.std.specs.Arc.{arc_value}
use Rattle.rds_host.proofs.Drawn.{free_at, split_keeps, split_new}
use Rattle.rds_host.proofs.seats.Seats.split.Goals as goal

pub invariant_of-self : goal.invariant_of-self
invariant_of-self c =
    let s = c.args.self.now in
    record { free = split_keeps (arc_value s.table) (arc_value s.meter) s.seat s.own s.free c.split-seat.new.seat c.split-own.new.seat c.split-seat.ensures.seat c.split-own.ensures.seat }

pub invariant_of-result : goal.invariant_of-result
invariant_of-result c =
    let s = c.args.self.now in
    record {
      free = free_at _ _ _ _ _ _ c.in_ok-table.ensures.table c.in_ok-table.ensures.meter
          (split_new (arc_value s.table) (arc_value s.meter) s.seat s.own s.free c.split-seat.result c.split-own.result c.split-seat.ensures.new c.split-own.ensures.new);
    }
