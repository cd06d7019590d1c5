use Rattle.std.proofs.Common.{rules}
use Rattle.rds_test_wires.proofs.counting.CountingWireWire.meet.Goals as goal

pub returns-clause-one : goal.returns-clause-one
returns-clause-one c = (c.meet.ensures.one.0, c.meet.ensures.one.1, λ other. c.meet.ensures.one.2 other.own)

pub returns-clause-other : goal.returns-clause-other
returns-clause-other c = (c.meet.ensures.other.0, c.meet.ensures.other.1, λ other. c.meet.ensures.other.2 other.own)
