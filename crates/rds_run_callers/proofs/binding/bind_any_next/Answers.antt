use Rattle.std.proofs.Common.{ℕ, Ok, inl, inr, ap, refl, sym, subst}
use Rattle.std.proofs.lemmas.Result.{on_ok_weaker}
use Rattle.rds_socket.specs.Binds.{BindAnyFits}
use Rattle.rds_run_callers.specs.Doing.{BindsFirstFree, IsFirstFree}
use Rattle.rds_run_callers.specs.Places.{Vacant}
use Rattle.rds_run_callers.specs.States.{shown_all}
use Rattle.rds_run_callers.proofs.Coming.{next_back, nothing}
use Rattle.rds_run_callers.proofs.Doings.{next_seen, none_seen}
use Rattle.rds_run_callers.proofs.binding.bind_any_next.Goals as goal

pub returns-in_default : goal.returns-in_default
returns-in_default c =
    let old = c.args.slots.now.states.items in
    nothing (BindsFirstFree c.args.start c.args.sndbuf c.args.rcvbuf) old c.lift_vacant.new.slots.states.items c.requires.slots (ap (λ v. v.states.items) c.in_default.ensures.same)
    (inr (none_seen old c.requires.slots.whole c.in_default.ensures.none, refl))

pub bind_any_vacant-state-requires-clause-got : goal.bind_any_vacant-state-requires-clause-got
bind_any_vacant-state-requires-clause-got c =
    c.requires.slots.places.kept c.in-Some.slot (Vacant c.in-Some.vacant)
    (next_seen c.args.slots.now.states.items c.requires.slots.whole c.in-Some.slot c.in-Some.vacant c.in-Some.ensures.first c.in-Some.ensures.was).0

pub returns : goal.returns
returns c =
    let old = c.args.slots.now.states.items in
    let r = c.bind_any_vacant-state.result.1 in
    let next = next_seen old c.requires.slots.whole c.in-Some.slot c.in-Some.vacant c.in-Some.ensures.first c.in-Some.ensures.was in
    let came =
    next_back r old c.lift_vacant.new.slots.states.items c.in-Some.slot c.requires.slots c.in-Some.ensures.lifted c.args.port
    (λ h o. BindAnyFits h c.args.start c.args.sndbuf c.args.rcvbuf (Ok o) × IsFirstFree (shown_all old) c.args.start o.port)
    c.in-Some.vacant c.bind_any_vacant-state.result.0 c.replace.new.self.states.items c.replace.ensures.states c.in-Some.ensures.was next c.requires.first.2
    (on_ok_weaker r (λ b. (b.0, (b.1, subst (λ (q : ℕ). IsFirstFree (shown_all old) c.args.start q) (sym b.2) c.requires.first), b.2, b.3)) c.bind_any_vacant-state.ensures.bound)
    c.bind_any_vacant-state.ensures.failed c.bind_any_vacant-state.ensures.keeps in
    record { sound = came.sound; keeps = came.keeps; done = on_ok_weaker r inl came.done }
