use Rattle.rds_mail.proofs.Joins.{joins}
use Rattle.rds_mail.proofs.mail.Mail.join.Goals as goal

pub absorb-requires-clause-rule : goal.absorb-requires-clause-rule
absorb-requires-clause-rule g c = joins _ _ _ _ c.put.invariant.2
