use Rattle.std.proofs.Common.{refl}
use Rattle.rds_socket_parts.specs.Ports.{first_port}
use Rattle.rds_run_callers.specs.Places.{Vacant}
use Rattle.rds_run_callers.proofs.Claiming.{search_low}
use Rattle.rds_run_callers.proofs.binding.bind_any_vacant.Goals as goal

pub returns-in-Err-clause-failed : goal.returns-in-Err-clause-failed
returns-in-Err-clause-failed c = (Vacant c.in-Err.vacant, refl, tt)

pub new-requires-clause-low : goal.new-requires-clause-low
new-requires-clause-low c = search_low c.args.vacant.ports (first_port c.args.start) c.in-Ok.socket.port c.in-Ok.socket.own.ports c.in-Ok.ensures.0
