use Rattle.rds_host.proofs.Kept.{host_kept, passes_kept}
use Rattle.rds_host.proofs.laws.host_keeps.Goals as goal

pub returns-clause-host : goal.returns-clause-host
returns-clause-host g c slots ended lines after of kept stay = host_kept slots ended lines after kept stay of

pub returns-clause-passes : goal.returns-clause-passes
returns-clause-passes g c slots ended lines after all kept stay = passes_kept slots ended lines after kept stay all
