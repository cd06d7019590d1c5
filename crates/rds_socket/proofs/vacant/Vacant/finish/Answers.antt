use Rattle.std.proofs.Common.{None}
use Rattle.rds_socket.proofs.vacant.Vacant.finish.Goals as goal

pub invariant_of-result : goal.invariant_of-result
invariant_of-result g c = record { port = None; held = c.self.invariant.held }
