use Rattle.std.proofs.Common.{rules}
use Rattle.rds_run_callers.proofs.tenant.told.Goals as goal

pub returns-in-Err-Memory-clause-allowed : goal.returns-in-Err-Memory-clause-allowed
returns-in-Err-Memory-clause-allowed c = search rules
