use Rattle.std.proofs.Common.{ap}
use Rattle.rds_socket.specs.Holding.{Holding}
use Rattle.rds_socket.proofs.Kept.{ended_same_routes}
use Rattle.rds_socket.proofs.Orders.{note_seen}
use Rattle.rds_socket.proofs.closed.Closed.order_note.Goals as goal

pub invariant_of-self : goal.invariant_of-self
invariant_of-self g c = ended_same_routes _ c.note.new.self c.note.ensures.same c.self.invariant

pub returns-clause-note : goal.returns-clause-note
returns-clause-note g c = note_seen c.args.place _ _ _ (ap (λ (o : Holding g.row.R.Denot). o.routes) c.self.view_is) c.note.ensures.note
