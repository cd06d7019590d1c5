use Rattle.std.proofs.Common.{Some}
use Rattle.rds_run_callers.proofs.Claiming.{claims_same}
use Rattle.rds_run_callers.proofs.former.FormerTenant.end.Goals as goal

pub returns-clause-claimed : goal.returns-clause-claimed
returns-clause-claimed g c = claims_same (Some c.args.self.port) c.args.self.closed c.take_unread.new.closed c.in_ok-unread.ensures.ports c.args.self.claimed
