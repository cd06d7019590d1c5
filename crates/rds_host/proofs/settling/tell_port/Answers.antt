use Rattle.std.proofs.Common.{rules}
use Rattle.rds_host.proofs.settling.tell_port.Goals as goal

pub returns-clause-told : goal.returns-clause-told
returns-clause-told g c = search rules
