use Rattle.std.proofs.Common.{rules}
use Rattle.rds_bindtab.proofs.table.BindTable.tell.Goals as goal

pub returns-clause-told : goal.returns-clause-told
returns-clause-told c = search rules
