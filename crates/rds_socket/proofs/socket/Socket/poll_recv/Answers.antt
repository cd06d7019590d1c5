use Rattle.std.proofs.Common.{ap}
use Rattle.rds_socket_parts.specs.Boxes.{Box}
use Rattle.rds_socket.proofs.Receipts.{received_open, received_is, received_stays}
use Rattle.rds_socket.proofs.Staying.{stays_inbox}
use Rattle.rds_socket.proofs.socket.Socket.poll_recv.Goals as goal

pub invariant_of-self : goal.invariant_of-self
invariant_of-self g c = received_open _ c.poll_get.new.self c.receive.new.self c.len-n.result c.receive.ensures c.self.invariant

pub returns-in-Ready-Ok-clause-received : goal.returns-in-Ready-Ok-clause-received
returns-in-Ready-Ok-clause-received g c =
    let got = rw c.in-Ready-Ok.field-0-is at c.in-Ready-Ok.ensures.got in
    received_is _ c.poll_get.new.self c.receive.new.self c.len-n.result c.receive.ensures _ got.0 c.in-Ready-Ok.item c.self.view_is c.len-n.ensures.len got.1

pub returns-in-Ready-Ok-clause-stays : goal.returns-in-Ready-Ok-clause-stays
returns-in-Ready-Ok-clause-stays g c =
    let got = rw c.in-Ready-Ok.field-0-is at c.in-Ready-Ok.ensures.got in
    received_stays _ c.poll_get.new.self c.receive.new.self c.len-n.result c.receive.ensures g.R.MapReader.pair g.R.MapReader.has_seen _ got.0 c.in-Ready-Ok.item c.self.view_is got.1

pub returns-in-Ready-Err-clause-stays : goal.returns-in-Ready-Err-clause-stays
returns-in-Ready-Err-clause-stays g c =
    let same = rw c.in-Ready-Err.field-0-is at c.in-Ready-Err.ensures.memory in
    stays_inbox g.R.MapReader.pair g.R.MapReader.has_seen _ _ c.poll_get.new.self c.self.view_is (ap (λ (b : Box). b.bell) same) (ap (λ (b : Box). b.get.mail) same)

pub returns-in-Pending-clause-stays : goal.returns-in-Pending-clause-stays
returns-in-Pending-clause-stays g c =
    let same = c.in-Pending.ensures.same in
    stays_inbox g.R.MapReader.pair g.R.MapReader.has_seen _ _ c.poll_get.new.self c.self.view_is (ap (λ (b : Box). b.bell) same) (ap (λ (b : Box). b.get.mail) same)
