use Rattle.std.specs.Arc.{arc_value}
use Rattle.rds_host.proofs.Drawn.{last_free}
use Rattle.rds_host.proofs.seats.Seats.last.Goals as goal

pub invariant_of-result : goal.invariant_of-result
invariant_of-result c =
    let s = c.args.self in
    record { free = last_free (arc_value s.table) (arc_value s.meter) s.seat s.own s.free c.split-new.result c.split-new.ensures.new }
