use Rattle.std.proofs.Common.{rules}
use Rattle.rds_run_rounds.proofs.turning.either.Goals as goal

pub returns-clause-exact : goal.returns-clause-exact
returns-clause-exact c = search rules
