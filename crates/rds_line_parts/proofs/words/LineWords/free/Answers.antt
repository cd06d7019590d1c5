use Rattle.std.proofs.Common.{rules}
use Rattle.rds_line_parts.proofs.words.LineWords.free.Goals as goal

pub free_add-requires-clause-part : goal.free_add-requires-clause-part
free_add-requires-clause-part c = search rules

pub returns : goal.returns
returns c = search rules
