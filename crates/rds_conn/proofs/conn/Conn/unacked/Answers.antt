use Rattle.std.proofs.Common.{length, ap, ◌∙◌}
use Rattle.rds_conn.proofs.KeepsOrders.{length-alive_messages}
use Rattle.rds_conn.proofs.conn.Conn.unacked.Goals as goal

pub returns : goal.returns
returns c =
    rw (← c.self.view_is)
    (c.len.ensures.len ∙ ap length c.self.invariant.stored.holds.alive ∙ length-alive_messages c.self.inside.journal.past)
