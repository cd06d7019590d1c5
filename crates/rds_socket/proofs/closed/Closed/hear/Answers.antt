use Rattle.std.proofs.Common.{◌∙◌, sym, ap}
use Rattle.rds_socket.specs.Holding.{Holding}
use Rattle.rds_socket_parts.specs.Boxes.{Box}
use Rattle.rds_socket.proofs.Kept.{ended_inbox}
use Rattle.rds_socket.proofs.Staying.{holds_inbox}
use Rattle.rds_socket.proofs.closed.Closed.hear.Goals as goal

pub invariant_of-self : goal.invariant_of-self
invariant_of-self g c = ended_inbox _ c.hear.new.self c.self.invariant

pub returns-clause-stays : goal.returns-clause-stays
returns-clause-stays g c = holds_inbox g.R.MapReader.pair g.R.MapReader.has_seen _ _ c.hear.new.self c.self.view_is (ap (λ (b : Box). b.bell) c.hear.ensures) (ap (λ (b : Box). b.get.mail) c.hear.ensures)

pub hear-requires : goal.hear-requires
hear-requires g c = c.requires ∙ ap (λ (o : Holding g.row.R.Denot). o.inbox.get.mail) (sym c.self.view_is)
