use Rattle.std.proofs.Common.{rules}
use Rattle.rds_text.proofs.addresses.address.Goals as goal

pub returns : goal.returns
returns c = search rules
