use Rattle.std.proofs.Common.{rules}
use Rattle.rds_run_rounds.proofs.rounds.end_after.Goals as goal

pub returns-in-Moved-clause-quiet : goal.returns-in-Moved-clause-quiet
returns-in-Moved-clause-quiet g c = search rules
