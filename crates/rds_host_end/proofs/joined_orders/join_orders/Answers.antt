use Rattle.std.proofs.Common.{rules}
use Rattle.rds_socket_parts.specs.Lanes.{IsOf}
use Rattle.rds_host_end.specs.Joins.{slot_of_order}
use Rattle.rds_host_end.proofs.Joins.{keyed_of, are_of, key_of_slot}
use Rattle.rds_host_end.proofs.joined_orders.join_orders.Goals as goal

pub returns-clause-begin : goal.returns-clause-begin
returns-clause-begin g c mark marked = c.gather_keyed.ensures.keyed slot_of_order mark (keyed_of slot_of_order IsOf mark c.gather_keyed.new.get.joined key_of_slot marked)

pub returns-clause-emptied : goal.returns-clause-emptied
returns-clause-emptied g c mark marked parts told =
    are_of slot_of_order mark c.gather_keyed.new.get.got c.gather_keyed.new.get.told c.gather_keyed.new.get.joined (c.gather_keyed.ensures.keyed slot_of_order mark (keyed_of slot_of_order IsOf mark c.gather_keyed.new.get.joined key_of_slot marked)) parts told

-- refused where the putters aren't joined
pub returns-clause-joined : goal.returns-clause-joined
returns-clause-joined g c = search rules
