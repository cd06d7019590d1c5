use Rattle.rds_run_hosts.proofs.Counted.{counted_go_on, counted_keep}
use Rattle.rds_run_hosts.proofs.laws.counted_keeps.Goals as goal

pub returns-clause-same : goal.returns-clause-same
returns-clause-same g c = λ commands before after old new counted same. counted_keep commands before after old new same counted

pub returns-clause-goes : goal.returns-clause-goes
returns-clause-goes g c = λ commands before after old new counted goes. counted_go_on commands before after old new goes counted
