use Rattle.rds_model.specs.declared.order.Order.TheVariants as order
use Rattle.rds_run_callers.proofs.Asking.{asks_open}
use Rattle.rds_run_callers.proofs.tenant.Tenant.cut.Goals as goal

pub returns-clause-done : goal.returns-clause-done
returns-clause-done g c = asks_open c.args.peer order.Cut c.args.self.now.socket c.cut.new.self c.cut.result c.told.result
    c.told.ensures.allowed c.cut.ensures.put c.cut.ensures.refused c.cut.ensures.same c.cut.ensures.rest
