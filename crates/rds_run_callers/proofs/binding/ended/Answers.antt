use Rattle.std.proofs.Common.{sym}
use Rattle.rds_run_callers.proofs.Claiming.{claims_of}
use Rattle.rds_run_callers.proofs.binding.ended.Goals as goal

pub new-former-requires-clause-claimed : goal.new-former-requires-clause-claimed
new-former-requires-clause-claimed c = claims_of c.port-port.result c.args.socket.port c.args.socket.own c.finish.result c.finish.ensures (sym c.port-port.ensures) c.known.ensures.held.claimed
