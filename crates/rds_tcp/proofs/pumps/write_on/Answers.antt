use Rattle.rds_tcp.proofs.Moved.{front_written}
use Rattle.rds_tcp.proofs.pumps.write_on.Goals as goal

pub returns-in-Err-clause-front : goal.returns-in-Err-clause-front
returns-in-Err-clause-front g c = front_written _ _ _ _ _ _ _ c.loop.invariant.2 c.pop_partial_slice-count.ensures.received.1 c.write_all.ensures.front
