use Rattle.rds_history.proofs.InOrder.{in_order_history}
use Rattle.rds_history.proofs.laws.in_order.Goals as goal

pub returns : goal.returns
returns c = in_order_history
