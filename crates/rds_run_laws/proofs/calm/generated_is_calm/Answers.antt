use Rattle.rds_run_laws.proofs.CalmGenerated.{generated_calm}
use Rattle.rds_run_laws.proofs.calm.generated_is_calm.Goals as goal

pub returns : goal.returns
returns c sends seed few = generated_calm sends seed few
