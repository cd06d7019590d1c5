use Rattle.std.proofs.Common.{rules}
use Rattle.rds_host_end.proofs.lines.LinesLeft.add.Goals as goal

-- refused where a journal stands beside another peer
pub returns-clause-journals : goal.returns-clause-journals
returns-clause-journals c = search rules
