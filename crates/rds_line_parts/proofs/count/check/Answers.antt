use Rattle.std.proofs.Common.{rules}
use Rattle.rds_line_parts.proofs.count.check.Goals as goal

pub returns-clause-seat : goal.returns-clause-seat
returns-clause-seat c = search rules
