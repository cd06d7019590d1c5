use Rattle.rds_meter.proofs.AllJoined.{none_joined, one_more_joined}
use Rattle.rds_meter.proofs.meter.Meter.join_all.Goals as goal

pub loop-seat-init : goal.loop-seat-init
loop-seat-init c = none_joined c.args.into.now

pub loop-seat-preserved : goal.loop-seat-preserved
loop-seat-preserved c =
    one_more_joined c.args.into.now c.loop-seat.into c.join.new.into c.loop-seat.yielded c.in-Some.seat c.join.ensures c.loop-seat.invariant
