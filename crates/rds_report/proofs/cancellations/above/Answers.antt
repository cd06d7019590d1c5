use Rattle.std.proofs.Common.{rules}
use Rattle.rds_report.proofs.cancellations.above.Goals as goal

pub returns-in-Some : goal.returns-in-Some
returns-in-Some c = search rules
