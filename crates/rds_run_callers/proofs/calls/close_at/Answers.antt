use Rattle.std.proofs.Common.{ap}
use Rattle.std.proofs.lemmas.Result.{on_ok_weaker}
use Rattle.rds_run_callers.specs.Places.{Ended}
use Rattle.rds_run_callers.specs.Tenants.{Closes}
use Rattle.rds_run_callers.proofs.Coming.{none_at, former_back}
use Rattle.rds_run_callers.proofs.calls.close_at.Goals as goal

pub returns-in_default : goal.returns-in_default
returns-in_default g c = none_at c.args.port Closes c.args.slots.now.states.items c.lift_bound.new.slots.states.items c.requires c.in_default.ensures.none (ap (λ v. v.states.items) c.in_default.ensures.same)

pub returns : goal.returns
returns g c =
    former_back c.close-former.result.1 c.args.slots.now.states.items c.lift_bound.new.slots.states.items c.in-Some.slot c.requires c.in-Some.ensures.lifted c.args.port Closes c.in-Some.tenant c.in-Some.ensures.was
    c.in-Some.ensures.port c.close-former.result.0 c.replace.new.self.states.items c.replace.ensures.states c.close-former.ensures.keeps
    (on_ok_weaker c.close-former.result.1 (λ closed. (c.close-former.result.0.closed, closed, λ i. Ended (c.close-former.ensures.port i) c.close-former.result.0.closed (ap (λ v. v.items) c.close-former.ensures.got i))) c.close-former.ensures.closed)
