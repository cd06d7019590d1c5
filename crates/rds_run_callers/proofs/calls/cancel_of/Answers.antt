use Rattle.std.proofs.Common.{ap}
use Rattle.std.proofs.lemmas.Result.{on_ok_weaker}
use Rattle.rds_run_callers.specs.Places.{Bound}
use Rattle.rds_run_callers.specs.Tenants.{Cancels}
use Rattle.rds_run_callers.proofs.Coming.{none_at, tenant_back}
use Rattle.rds_run_callers.proofs.calls.cancel_of.Goals as goal

pub returns-in_default : goal.returns-in_default
returns-in_default g c = none_at c.args.port (Cancels c.args.peer c.args.dport) c.args.slots.now.states.items c.lift_bound.new.slots.states.items c.requires c.in_default.ensures.none (ap (λ v. v.states.items) c.in_default.ensures.same)

pub returns : goal.returns
returns g c =
    tenant_back c.cancel-cancelled.result c.args.slots.now.states.items c.lift_bound.new.slots.states.items c.in-Some.slot c.requires c.in-Some.ensures.lifted c.args.port (Cancels c.args.peer c.args.dport) c.in-Some.tenant c.in-Some.ensures.was
    c.in-Some.ensures.port c.cancel-cancelled.new.self c.replace.new.self.states.items c.replace.ensures.states (ap (λ o. o.port) c.cancel-cancelled.ensures.rest) c.cancel-cancelled.ensures.keeps
    (on_ok_weaker c.cancel-cancelled.result (λ asks. (c.cancel-cancelled.new.self.socket.own, asks, λ i. Bound (c.cancel-cancelled.ensures.rest i) (ap (λ v. v.items) c.cancel-cancelled.ensures.got i))) c.cancel-cancelled.ensures.done)
