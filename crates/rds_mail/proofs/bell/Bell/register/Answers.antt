use Rattle.std.proofs.Common.{rules}
use Rattle.rds_mail.proofs.bell.Bell.register.Goals as goal

pub returns-clause-heard : goal.returns-clause-heard
returns-clause-heard g c = search rules
