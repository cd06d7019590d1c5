use Rattle.std.proofs.Common.{rules}
use Rattle.rds_meter.proofs.mark.Mark.is_over.Goals as goal

pub returns-then-self : goal.returns-then-self
returns-then-self c = search rules
