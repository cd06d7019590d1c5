use Rattle.std.proofs.Common.{rules}
use Rattle.rds_line_parts.proofs.orders.LineOrders.take_order.Goals as goal

pub returns-clause-counted : goal.returns-clause-counted
returns-clause-counted g c = search rules
