use Rattle.rds_socket_parts.specs.Ports.{first_port}
use Rattle.rds_socket.proofs.Ends.{bound_open, still_vacant}
use Rattle.rds_socket.proofs.vacant.Vacant.bind_any.Goals as goal

pub invariant_of-result : goal.invariant_of-result
invariant_of-result g c =
    let s = c.in-Some.ensures in
    bound_open _ c.self.invariant c.args.rcvbuf c.set_limit.new.self c.set_limit.ensures (first_port c.args.start) c.in-Some.port c.args.sndbuf s.0 c.search.new.self s.2 s.4 c.requires.sndbuf c.requires.rcvbuf

pub invariant_of-vacant : goal.invariant_of-vacant
invariant_of-vacant g c =
    let s = c.in-None.ensures in
    still_vacant _ c.self.invariant c.args.rcvbuf c.set_limit.new.self c.set_limit.ensures (first_port c.args.start) s.0 c.search.new.self s.2 s.3
