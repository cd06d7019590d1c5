use Rattle.std.proofs.Common.{ap}
use Rattle.std.proofs.lemmas.Result.{on_ok_weaker}
use Rattle.rds_run_callers.specs.Places.{Bound}
use Rattle.rds_run_callers.specs.Tenants.{SendsFrom}
use Rattle.rds_run_callers.proofs.Coming.{none_at, tenant_back}
use Rattle.rds_run_callers.proofs.calls.send_from.Goals as goal

pub returns-in_default : goal.returns-in_default
returns-in_default g c = none_at c.args.port (SendsFrom c.args.peer c.args.dport c.args.payload) c.args.slots.now.states.items c.lift_bound.new.slots.states.items c.requires c.in_default.ensures.none (ap (λ v. v.states.items) c.in_default.ensures.same)

pub returns : goal.returns
returns g c =
    tenant_back c.send-sent.result c.args.slots.now.states.items c.lift_bound.new.slots.states.items c.in-Some.slot c.requires c.in-Some.ensures.lifted c.args.port (SendsFrom c.args.peer c.args.dport c.args.payload) c.in-Some.tenant c.in-Some.ensures.was
    c.in-Some.ensures.port c.send-sent.new.self c.replace.new.self.states.items c.replace.ensures.states c.send-sent.ensures.port c.send-sent.ensures.keeps
    (on_ok_weaker c.send-sent.result (λ sent. (c.send-sent.new.self.socket, sent, ap (λ v. Bound c.send-sent.new.self.socket v.items) c.send-sent.ensures.got)) c.send-sent.ensures.done)
