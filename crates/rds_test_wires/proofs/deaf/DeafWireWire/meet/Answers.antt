use Rattle.std.proofs.Common.{rules}
use Rattle.rds_test_wires.proofs.deaf.DeafWireWire.meet.Goals as goal

pub returns-clause-one : goal.returns-clause-one
returns-clause-one c = (search rules, search rules, λ other. c.meet.ensures.one.2 other.own)

pub returns-clause-other : goal.returns-clause-other
returns-clause-other c = (search rules, search rules, λ other. c.meet.ensures.other.2 other.own)
