use Rattle.rds_report.proofs.Whole.{whole_bytes, whole_counts}
use Rattle.rds_report.proofs.laws.totals_of_items.Goals as goal

pub returns-clause-counts : goal.returns-clause-counts
returns-clause-counts c hosts are all = whole_counts hosts are all

pub returns-clause-bytes : goal.returns-clause-bytes
returns-clause-bytes c hosts are all = whole_bytes hosts are all
