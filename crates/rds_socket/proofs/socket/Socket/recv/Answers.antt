use Rattle.std.proofs.Common.{ap}
use Rattle.rds_socket_parts.specs.Boxes.{Box}
use Rattle.rds_socket.proofs.Receipts.{received_open, received_is, received_stays}
use Rattle.rds_socket.proofs.Staying.{stays_inbox}
use Rattle.rds_socket.proofs.socket.Socket.recv.Goals as goal

pub returns-in_err-item-clause-stays : goal.returns-in_err-item-clause-stays
returns-in_err-item-clause-stays g c =
    let same = c.in_err-item.ensures.same in
    stays_inbox g.R.MapReader.pair g.R.MapReader.has_seen _ _ c.get.new.self c.self.view_is (ap (λ (b : Box). b.bell) same) (ap (λ (b : Box). b.get.mail) same)

pub invariant_of-self-2 : goal.invariant_of-self-2
invariant_of-self-2 g c = received_open _ c.get.new.self c.receive.new.self c.len.result c.receive.ensures c.self.invariant

pub returns-clause-received : goal.returns-clause-received
returns-clause-received g c =
    let got = c.in_ok-item.ensures.got in
    received_is _ c.get.new.self c.receive.new.self c.len.result c.receive.ensures _ got.0 c.in_ok-item.item c.self.view_is c.len.ensures.len got.1

pub returns-clause-stays : goal.returns-clause-stays
returns-clause-stays g c =
    let got = c.in_ok-item.ensures.got in
    received_stays _ c.get.new.self c.receive.new.self c.len.result c.receive.ensures g.R.MapReader.pair g.R.MapReader.has_seen _ got.0 c.in_ok-item.item c.self.view_is got.1
