use Rattle.std.proofs.Common.{[]}
use Rattle.std.proofs.lemmas.List.Elements.{All-nil}
use Rattle.rds_socket_parts.specs.Ports.{IsTaken}
use Rattle.rds_socket.proofs.Ends.{bound_open, refused_vacant}
use Rattle.rds_socket.proofs.vacant.Vacant.bind.Goals as goal

pub invariant_of-result : goal.invariant_of-result
invariant_of-result g c =
    bound_open _ c.self.invariant c.args.rcvbuf c.set_limit.new.self c.set_limit.ensures c.args.port c.args.port c.args.sndbuf [] c.claim.new.self (All-nil IsTaken) c.in-Ok.ensures.seat c.requires.sndbuf c.requires.rcvbuf

pub invariant_of-vacant : goal.invariant_of-vacant
invariant_of-vacant g c =
    refused_vacant _ c.self.invariant c.args.rcvbuf c.set_limit.new.self c.set_limit.ensures c.args.port c.in-Err.error c.claim.new.self c.ranges.port.fits c.in-Err.ensures.answer c.in-Err.ensures.seat
