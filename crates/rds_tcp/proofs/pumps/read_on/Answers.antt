use Rattle.std.proofs.Common.{rules}
use Rattle.rds_tcp.proofs.Moved.{front_put}
use Rattle.rds_tcp.proofs.pumps.read_on.Goals as goal

pub returns-then-not-put_all-clause-front : goal.returns-then-not-put_all-clause-front
returns-then-not-put_all-clause-front g c = front_put _ _ _ _ _ _ _ c.loop.invariant.2 c.in-Ok.ensures.came c.put_all.ensures.front

pub returns-in-Err-clause-all : goal.returns-in-Err-clause-all
returns-in-Err-clause-all g c = search rules
