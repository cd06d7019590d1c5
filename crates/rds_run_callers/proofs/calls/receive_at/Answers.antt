use Rattle.std.proofs.Common.{ap}
use Rattle.rds_run_callers.specs.Tenants.{ReceivesNext}
use Rattle.rds_run_callers.proofs.Coming.{none_at, tenant_back}
use Rattle.rds_run_callers.proofs.calls.receive_at.Goals as goal

pub returns-in_default : goal.returns-in_default
returns-in_default g c = none_at c.args.port ReceivesNext c.args.slots.now.states.items c.lift_bound.new.slots.states.items c.requires c.in_default.ensures.none (ap (λ v. v.states.items) c.in_default.ensures.same)

pub returns : goal.returns
returns g c =
    tenant_back c.receive_next-received.result c.args.slots.now.states.items c.lift_bound.new.slots.states.items c.in-Some.slot c.requires c.in-Some.ensures.lifted c.args.port ReceivesNext c.in-Some.tenant c.in-Some.ensures.was
    c.in-Some.ensures.port c.receive_next-received.new.self c.replace.new.self.states.items c.replace.ensures.states c.receive_next-received.ensures.port c.receive_next-received.ensures.keeps
    c.receive_next-received.ensures.done
