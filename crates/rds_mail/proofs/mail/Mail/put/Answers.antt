use Rattle.std.proofs.Common.{rules}
use Rattle.rds_mail.proofs.Steps.{puts}
use Rattle.rds_mail.proofs.mail.Mail.put.Goals as goal

pub push_as-requires-clause-rule : goal.push_as-requires-clause-rule
push_as-requires-clause-rule g c n = puts n _ _ _ c.pass.invariant.2

pub returns-clause-same : goal.returns-clause-same
returns-clause-same g c = search rules

pub returns-clause-put : goal.returns-clause-put
returns-clause-put g c = search rules
