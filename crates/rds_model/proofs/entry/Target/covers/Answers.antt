use Rattle.std.proofs.Common.{rules}
use Rattle.rds_model.proofs.entry.Target.covers.Goals as goal

pub returns-in-Port : goal.returns-in-Port
returns-in-Port c = search rules
