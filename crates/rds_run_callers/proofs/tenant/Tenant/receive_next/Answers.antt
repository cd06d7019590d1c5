use Rattle.rds_run_callers.proofs.Doings.{receives}
use Rattle.rds_run_callers.proofs.tenant.Tenant.receive_next.Goals as goal

pub returns-clause-done : goal.returns-clause-done
returns-clause-done g c = receives c.in_ok-receive.field-0 c.args.self.now c.receive.new.self c.in_ok-receive.ensures.got c.in_ok-receive.ensures.same c.in_ok-receive.ensures.empty
