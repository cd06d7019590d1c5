use Rattle.rds_meter.specs.Joining.{IsJoinOf}
use Rattle.rds_meter.proofs.meter.Meter.join_all.Given as goal

abbrev pub invariant-loop-seat : goal.invariant-loop-seat
invariant-loop-seat l = IsJoinOf l.fn.into l.yielded l.into
