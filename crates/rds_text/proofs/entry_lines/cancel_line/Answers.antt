use Rattle.std.proofs.Common.{rules}
use Rattle.rds_text.proofs.entry_lines.cancel_line.Goals as goal

pub returns : goal.returns
returns c = search rules
