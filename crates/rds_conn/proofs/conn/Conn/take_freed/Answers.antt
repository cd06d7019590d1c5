use Rattle.rds_conn.proofs.Handing.{keeps_taken}
use Rattle.rds_conn.proofs.conn.Conn.take_freed.Goals as goal

pub invariant_of-self : goal.invariant_of-self
invariant_of-self c =
    rw c.take-in-Some.ensures (keeps_taken c.self.inside c.take.new.self c.in-Some.freed c.self.invariant c.in-Some.ensures.some)
