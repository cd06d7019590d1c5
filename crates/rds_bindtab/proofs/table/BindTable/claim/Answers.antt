use Rattle.std.proofs.Common.{rules}
use Rattle.rds_bindtab.proofs.table.BindTable.claim.Goals as goal

pub returns-then-word-ne0-clause-answer : goal.returns-then-word-ne0-clause-answer
returns-then-word-ne0-clause-answer c = search rules

pub returns-clause-answer : goal.returns-clause-answer
returns-clause-answer c = search rules
