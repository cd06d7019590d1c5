use Rattle.rds_mail.proofs.Merging.{compares}
use Rattle.rds_mail.proofs.mail.Mail.compare.Goals as goal

pub len_as-requires-clause-rule : goal.len_as-requires-clause-rule
len_as-requires-clause-rule g c = compares _ _ c.get.invariant.2
