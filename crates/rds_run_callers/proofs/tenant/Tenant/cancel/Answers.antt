use Rattle.rds_model.specs.declared.order.Order.TheVariants as order
use Rattle.rds_run_callers.proofs.Asking.{asks_open}
use Rattle.rds_run_callers.proofs.tenant.Tenant.cancel.Goals as goal

pub returns-clause-done : goal.returns-clause-done
returns-clause-done g c = asks_open c.args.peer (order.Cancel c.args.self.now.socket.own.words.slot c.args.dport) c.args.self.now.socket c.cancel.new.self c.cancel.result c.told.result
    c.told.ensures.allowed c.cancel.ensures.put c.cancel.ensures.refused c.cancel.ensures.same c.cancel.ensures.rest
