use Rattle.std.proofs.Common.{rules}
use Rattle.rds_mail.proofs.mail.Mail.get_counted.Goals as goal

pub returns-then-is_none-clause-counted : goal.returns-then-is_none-clause-counted
returns-then-is_none-clause-counted g c = search rules

pub returns-then-is_none-clause-empty : goal.returns-then-is_none-clause-empty
returns-then-is_none-clause-empty g c = search rules
