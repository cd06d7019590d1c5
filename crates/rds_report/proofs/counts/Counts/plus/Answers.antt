use Rattle.std.proofs.Common.{refl}
use Rattle.rds_report.proofs.counts.Counts.plus.Goals as goal

pub returns : goal.returns
returns c = refl
