use Rattle.std.proofs.Common.{rules}
use Rattle.rds_mail.proofs.asked.Asked.order.Goals as goal

pub returns-clause-order : goal.returns-clause-order
returns-clause-order c = search rules
