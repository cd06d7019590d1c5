use Rattle.std.proofs.Common.{rules}
use Rattle.rds_line_parts.proofs.words.LineWords.taken.Goals as goal

pub returns : goal.returns
returns c = search rules
