use Rattle.std.proofs.Common.{rules}
use Rattle.rds_meter.proofs.meter.Meter.put.Goals as goal

pub returns-clause-seat : goal.returns-clause-seat
returns-clause-seat c = search rules

pub returns-clause-part : goal.returns-clause-part
returns-clause-part c = search rules
