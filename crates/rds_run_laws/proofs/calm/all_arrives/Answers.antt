use Rattle.rds_run_laws.proofs.Carried.{carries_all}
use Rattle.rds_run_laws.proofs.calm.all_arrives.Goals as goal

pub returns : goal.returns
returns c hosts commands ends run host place end side stands at =
    carries_all c.pulled_maps.ensures hosts commands ends run.calm run.did run.acknowledged host place end side stands at
