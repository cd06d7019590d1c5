use Rattle.std.proofs.Common.{rules}
use Rattle.rds_mail.proofs.Steps.{begins}
use Rattle.rds_mail.proofs.Splits.{roles}
use Rattle.rds_mail.proofs.mail.Mail.new.Goals as goal

pub with_rule-requires : goal.with_rule-requires
with_rule-requires g c = begins

pub another-get-requires-clause-rule : goal.another-get-requires-clause-rule
another-get-requires-clause-rule g c = roles _ _ (search rules) (search rules)
