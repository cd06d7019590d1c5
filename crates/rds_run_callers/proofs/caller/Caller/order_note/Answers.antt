use Rattle.std.proofs.Common.{List, sym, ap, subst, ◌∙◌, arith}
use Rattle.rds_run_callers.specs.States.{AreSlots, shown_all}
use Rattle.rds_run_callers.specs.declared.state.State.{State}
use Rattle.rds_run_callers.proofs.Seen.{put_same}
use Rattle.rds_run_callers.proofs.Doings.{showing, place_within}
use Rattle.rds_run_callers.proofs.caller.Caller.order_note.Goals as goal

pub replace-state-requires : goal.replace-state-requires
replace-state-requires c =
    let u = c.requires.used in
    let small = place_within c.self.inside.slots.states.items c.args.self.now.places c.args.slot c.from-slot.result u.0 c.self.invariant.whole (ap (λ v. v.places) c.self.view_is) c.from-slot.ensures u.1 in
    let size = c.self.inside.slots.states.ok.0 in
    omega arith

pub order_note-note-requires : goal.order_note-note-requires
order_note-note-requires c =
    let u = c.requires.used in
    record { used = (u.0, showing c.self.inside.slots.states.items c.args.self.now.places c.args.slot c.from-slot.result c.replace-state.result u.0 c.self.invariant.whole (ap (λ v. v.places) c.self.view_is) c.from-slot.ensures c.replace-state.ensures.was u.1, u.2, u.3) }

pub invariant_of-self : goal.invariant_of-self
invariant_of-self c =
    subst (λ (l : List State). AreSlots l) (sym (put_same c.self.inside.slots.states.items c.replace-state.new.self.states.items c.replace.new.self.states.items c.from-slot.result c.replace-state.result c.order_note-note.new.self
    c.replace-state.ensures.was c.replace-state.ensures.states c.replace.ensures.states c.order_note-note.ensures.same)) c.self.invariant

pub returns-clause-same : goal.returns-clause-same
returns-clause-same c =
    let back = put_same c.self.inside.slots.states.items c.replace-state.new.self.states.items c.replace.new.self.states.items c.from-slot.result c.replace-state.result c.order_note-note.new.self
    c.replace-state.ensures.was c.replace-state.ensures.states c.replace.ensures.states c.order_note-note.ensures.same in
    (λ i. record { host = c.self.inside.host; places = shown_all (back i) }) ∙ c.self.view_is

pub returns-clause-note : goal.returns-clause-note
returns-clause-note c = λ p at.
    c.order_note-note.ensures.note p (showing c.self.inside.slots.states.items c.args.self.now.places c.args.slot c.from-slot.result c.replace-state.result p c.self.invariant.whole (ap (λ v. v.places) c.self.view_is) c.from-slot.ensures c.replace-state.ensures.was at)
