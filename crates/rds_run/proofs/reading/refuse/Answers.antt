use Rattle.std.proofs.Common.{rules}
use Rattle.rds_run.proofs.reading.refuse.Goals as goal

pub returns-in-Ok : goal.returns-in-Ok
returns-in-Ok g c = search rules
