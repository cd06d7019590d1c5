use Rattle.std.proofs.Common.{rules}
use Rattle.rds_report.proofs.totals.Totals.plus.Goals as goal

pub returns-clause-counts : goal.returns-clause-counts
returns-clause-counts c = search rules
