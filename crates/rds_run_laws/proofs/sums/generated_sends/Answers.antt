use Rattle.rds_run_laws.proofs.Generated.{bytes_generated, count_generated}
use Rattle.rds_run_laws.proofs.sums.generated_sends.Goals as goal

pub returns-clause-count : goal.returns-clause-count
returns-clause-count c sends seed = count_generated sends seed

pub returns-clause-bytes : goal.returns-clause-bytes
returns-clause-bytes c sends seed = bytes_generated sends seed
