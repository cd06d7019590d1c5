use Rattle.std.proofs.Common.{Ok, inl, inr, ap, refl}
use Rattle.std.proofs.lemmas.Result.{on_ok_weaker}
use Rattle.rds_socket.specs.Binds.{BindFits}
use Rattle.rds_run_callers.specs.Doing.{Binds}
use Rattle.rds_run_callers.specs.Places.{Vacant}
use Rattle.rds_run_callers.proofs.Coming.{next_back, nothing}
use Rattle.rds_run_callers.proofs.Doings.{next_seen, none_seen}
use Rattle.rds_run_callers.proofs.binding.bind_next.Goals as goal

pub returns-in_default : goal.returns-in_default
returns-in_default c =
    let old = c.args.slots.now.states.items in
    nothing (Binds c.args.port c.args.sndbuf c.args.rcvbuf) old c.lift_vacant.new.slots.states.items c.requires.slots (ap (λ v. v.states.items) c.in_default.ensures.same)
    (inr (inl (none_seen old c.requires.slots.whole c.in_default.ensures.none), refl))

pub bind_vacant-state-requires-clause-got : goal.bind_vacant-state-requires-clause-got
bind_vacant-state-requires-clause-got c =
    c.requires.slots.places.kept c.in-Some.slot (Vacant c.in-Some.vacant)
    (next_seen c.args.slots.now.states.items c.requires.slots.whole c.in-Some.slot c.in-Some.vacant c.in-Some.ensures.first c.in-Some.ensures.was).0

pub returns : goal.returns
returns c =
    let old = c.args.slots.now.states.items in
    let r = c.bind_vacant-state.result.1 in
    let next = next_seen old c.requires.slots.whole c.in-Some.slot c.in-Some.vacant c.in-Some.ensures.first c.in-Some.ensures.was in
    let came =
    next_back r old c.lift_vacant.new.slots.states.items c.in-Some.slot c.requires.slots c.in-Some.ensures.lifted c.args.port (λ h o. BindFits h c.args.port c.args.sndbuf c.args.rcvbuf (Ok o))
    c.in-Some.vacant c.bind_vacant-state.result.0 c.replace.new.self.states.items c.replace.ensures.states c.in-Some.ensures.was next c.requires.free (on_ok_weaker r (λ b. (b.0, b.1, ap (λ o. o.port) b.1.1, b.2)) c.bind_vacant-state.ensures.bound)
    c.bind_vacant-state.ensures.failed c.bind_vacant-state.ensures.keeps in
    record { sound = came.sound; keeps = came.keeps; done = on_ok_weaker r (λ b. inl (c.requires.low, c.requires.free, b)) came.done }
