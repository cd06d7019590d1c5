use Rattle.std.proofs.Common.{Some}
use Rattle.rds_socket.proofs.socket.Socket.finish.Goals as goal

pub invariant_of-result : goal.invariant_of-result
invariant_of-result g c = record { port = Some c.self.inside.port; held = c.self.invariant.held }
