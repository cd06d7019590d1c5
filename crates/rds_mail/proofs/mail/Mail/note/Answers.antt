use Rattle.rds_mail.proofs.Splits.{notes}
use Rattle.rds_mail.proofs.mail.Mail.note.Goals as goal

pub another-note-requires-clause-rule : goal.another-note-requires-clause-rule
another-note-requires-clause-rule g c = notes _ _ c.pass.invariant.2
