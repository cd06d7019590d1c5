use Rattle.std.proofs.Common.{rules}
use Rattle.rds_mail.proofs.mail.Mail.poll_get.Goals as goal

pub returns-in-None-clause-memory : goal.returns-in-None-clause-memory
returns-in-None-clause-memory g c = search rules

pub returns-in-None-clause-empty : goal.returns-in-None-clause-empty
returns-in-None-clause-empty g c = search rules

pub returns-in-None-clause-armed : goal.returns-in-None-clause-armed
returns-in-None-clause-armed g c = search rules

pub returns-in-None-clause-heard : goal.returns-in-None-clause-heard
returns-in-None-clause-heard g c = search rules

pub returns-in-Some-clause-got : goal.returns-in-Some-clause-got
returns-in-Some-clause-got g c = search rules
