use Rattle.std.proofs.Common.{None, ap}
use Rattle.rds_model.specs.declared.order.Order.TheVariants as order
use Rattle.rds_fmap.specs.Readers.{ReaderView}
use Rattle.rds_socket.specs.Holding.{Holding}
use Rattle.rds_run_callers.proofs.Asking.{asks_of}
use Rattle.rds_run_callers.proofs.Claiming.{claims_same}
use Rattle.rds_run_callers.proofs.spare.SpareSlot.cut.Goals as goal

pub returns-clause-done : goal.returns-clause-done
returns-clause-done g c = asks_of c.args.peer order.Cut c.args.self.now.closed c.cut.new.self c.cut.result c.told.result
    c.told.ensures.allowed c.cut.ensures.put c.cut.ensures.refused c.cut.ensures.same c.cut.ensures.rest

pub invariant_of-self : goal.invariant_of-self
invariant_of-self g c = record { claimed = claims_same None c.args.self.now.closed c.cut.new.self (ap (λ (h : Holding ReaderView). h.ports) c.cut.ensures.rest) c.args.self.now.claimed }
