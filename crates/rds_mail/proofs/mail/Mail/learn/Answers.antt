use Rattle.rds_mail.proofs.Joins.{tells}
use Rattle.rds_mail.proofs.mail.Mail.learn.Goals as goal

pub absorb-requires-clause-rule : goal.absorb-requires-clause-rule
absorb-requires-clause-rule g c = tells _ _ _ _ c.note.invariant.2
