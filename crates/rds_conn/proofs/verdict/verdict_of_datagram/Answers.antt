use Rattle.std.proofs.Common.{rules}
use Rattle.rds_conn.proofs.verdict.verdict_of_datagram.Goals as goal

pub returns-then-h-ne0-2 : goal.returns-then-h-ne0-2
returns-then-h-ne0-2 c = search rules

pub returns-then-h-eq0 : goal.returns-then-h-eq0
returns-then-h-eq0 c = search rules

pub returns-else-h-eq0 : goal.returns-else-h-eq0
returns-else-h-eq0 c = search rules
