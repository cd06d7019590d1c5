use Rattle.rds_script.proofs.WholeText.{spelled_or_refused, never_both}
use Rattle.rds_script.proofs.laws.spelled_or_refused.Goals as goal

pub returns-clause-either : goal.returns-clause-either
returns-clause-either c = spelled_or_refused

pub returns-clause-never_both : goal.returns-clause-never_both
returns-clause-never_both c = never_both
