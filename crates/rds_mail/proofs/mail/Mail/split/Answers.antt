use Rattle.std.proofs.Common.{rules}
use Rattle.rds_mail.proofs.Splits.{halves}
use Rattle.rds_mail.proofs.mail.Mail.split.Goals as goal

pub another-new-requires-clause-rule : goal.another-new-requires-clause-rule
another-new-requires-clause-rule g c = halves _ _ c.pass.invariant.2

pub returns-clause-pass : goal.returns-clause-pass
returns-clause-pass g c = search rules

pub returns-clause-new : goal.returns-clause-new
returns-clause-new g c = search rules
