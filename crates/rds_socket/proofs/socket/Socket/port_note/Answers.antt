use Rattle.std.proofs.Common.{rules}
use Rattle.rds_socket.proofs.Kept.{open_same_ports}
use Rattle.rds_socket.proofs.socket.Socket.port_note.Goals as goal

pub invariant_of-self : goal.invariant_of-self
invariant_of-self g c = open_same_ports _ c.note.new.self c.note.ensures.same c.self.invariant

pub note-requires : goal.note-requires
note-requires g c = let e = c.self.invariant.port in search rules
