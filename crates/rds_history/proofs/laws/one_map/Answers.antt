use Rattle.rds_history.proofs.OneMap.{one_map}
use Rattle.rds_history.proofs.laws.one_map.Goals as goal

pub returns : goal.returns
returns c h port past low = one_map h past port low
