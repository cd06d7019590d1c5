use Rattle.std.proofs.Common.{rules}
use Rattle.rds_text.proofs.addresses.host_of.Goals as goal

pub returns-clause-some : goal.returns-clause-some
returns-clause-some c = search rules
