use Rattle.rds_mail.proofs.Steps.{gets, emptied}
use Rattle.rds_mail.proofs.mail.Mail.get.Goals as goal

pub pop_as-requires-clause-rule : goal.pop_as-requires-clause-rule
pop_as-requires-clause-rule g c = (gets _ _ c.get.invariant.2, emptied _ _ c.get.invariant.2)
