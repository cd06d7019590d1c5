use Rattle.rds_run_laws.proofs.Callers.{obeyed}
use Rattle.rds_run_laws.proofs.sums.callers_put.Goals as goal

pub returns : goal.returns
returns c weight host commands first last done = obeyed weight host commands first last done
