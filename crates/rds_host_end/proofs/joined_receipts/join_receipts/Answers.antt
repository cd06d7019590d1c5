use Rattle.std.proofs.Common.{rules}
use Rattle.rds_host_end.specs.Joins.{sender_in, IsFrom}
use Rattle.rds_host_end.proofs.Joins.{keyed_of, are_of, key_of_sender}
use Rattle.rds_host_end.proofs.joined_receipts.join_receipts.Goals as goal

pub returns-clause-begin : goal.returns-clause-begin
returns-clause-begin g c mark marked = c.gather_keyed.ensures.keyed sender_in mark (keyed_of sender_in IsFrom mark c.gather_keyed.new.get.joined key_of_sender marked)

pub returns-clause-emptied : goal.returns-clause-emptied
returns-clause-emptied g c mark marked parts told =
    are_of sender_in mark c.gather_keyed.new.get.got c.gather_keyed.new.get.told c.gather_keyed.new.get.joined (c.gather_keyed.ensures.keyed sender_in mark (keyed_of sender_in IsFrom mark c.gather_keyed.new.get.joined key_of_sender marked)) parts told

-- refused where the putters aren't joined
pub returns-clause-joined : goal.returns-clause-joined
returns-clause-joined g c = search rules
