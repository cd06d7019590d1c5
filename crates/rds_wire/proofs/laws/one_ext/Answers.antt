use Rattle.rds_wire.proofs.OneExt.{one_StandsAt}
use Rattle.rds_wire.proofs.laws.one_ext.Goals as goal

pub returns : goal.returns
returns c = one_StandsAt
