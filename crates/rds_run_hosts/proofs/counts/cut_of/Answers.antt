use Rattle.std.proofs.Common.{rules}
use Rattle.rds_run_hosts.proofs.counts.cut_of.Goals as goal

-- refused where a cut is passed over
pub returns-in_default : goal.returns-in_default
returns-in_default c = search rules
