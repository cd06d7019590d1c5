use Rattle.std.proofs.Common.{◌∙◌, sym, ap}
use Rattle.rds_socket.specs.Holding.{Open}
use Rattle.rds_socket_parts.specs.Boxes.{Box}
use Rattle.rds_socket.proofs.Kept.{open_inbox}
use Rattle.rds_socket.proofs.Staying.{stays_inbox}
use Rattle.rds_socket.proofs.socket.Socket.hear.Goals as goal

pub invariant_of-self : goal.invariant_of-self
invariant_of-self g c = open_inbox _ c.hear.new.self c.self.invariant

pub returns-clause-stays : goal.returns-clause-stays
returns-clause-stays g c = stays_inbox g.R.MapReader.pair g.R.MapReader.has_seen _ _ c.hear.new.self c.self.view_is (ap (λ (b : Box). b.bell) c.hear.ensures) (ap (λ (b : Box). b.get.mail) c.hear.ensures)

pub hear-requires : goal.hear-requires
hear-requires g c = c.requires ∙ ap (λ (o : Open g.row.R.Denot). o.own.inbox.get.mail) (sym c.self.view_is)
