use Rattle.rds_conn.proofs.MessagesHeld.{next_of_held}
use Rattle.rds_conn.proofs.conn.Conn.next_due.Goals as goal

pub returns : goal.returns
returns c =
    rw (← c.self.view_is, c.copied.ensures, c.next_to_pull.ensures)
    (λ s on. next_of_held s c.self.inside.journal.past c.self.inside.store.messages c.self.inside.store.mark on c.self.invariant.stored.holds)
