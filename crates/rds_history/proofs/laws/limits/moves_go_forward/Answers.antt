use Rattle.std.proofs.Common.{subst}
use Rattle.rds_history.proofs.Holding.{Holds}
use Rattle.rds_history.proofs.Moves.{IsCarried, carried}
use Rattle.rds_history.proofs.laws.limits.moves_go_forward.Goals as goal

pub returns : goal.returns
returns c limit h k past later is = (subst (Holds (IsCarried limit h k past)) is (carried limit h k past)).steady.forward
