use Rattle.std.proofs.Common.{rules}
use Rattle.rds_text.proofs.command_lines.drained_line.Goals as goal

pub returns : goal.returns
returns c = search rules
