use Rattle.std.proofs.Common.{ap, arith}
use Rattle.rds_run_callers.proofs.Seen.{put_over}
use Rattle.rds_run_callers.proofs.Doings.{showing, place_within, heard}
use Rattle.rds_run_callers.proofs.caller.Caller.hear.Goals as goal

pub replace-state-requires : goal.replace-state-requires
replace-state-requires c =
    let u = c.requires.used in
    let small = place_within c.self.inside.slots.states.items c.args.self.now.places c.args.slot c.from-slot.result u.0 c.self.invariant.whole (ap (λ v. v.places) c.self.view_is) c.from-slot.ensures u.1 in
    let size = c.self.inside.slots.states.ok.0 in
    omega arith

pub hear-requires : goal.hear-requires
hear-requires c =
    let u = c.requires.used in
    record { used = (u.0, showing c.self.inside.slots.states.items c.args.self.now.places c.args.slot c.from-slot.result c.replace-state.result u.0 c.self.invariant.whole (ap (λ v. v.places) c.self.view_is) c.from-slot.ensures c.replace-state.ensures.was u.1, u.2, u.3) }

pub invariant_of-self : goal.invariant_of-self
invariant_of-self c =
    let u = c.requires.used in
    let made = put_over c.self.inside.slots.states.items c.replace-state.new.self.states.items c.replace.new.self.states.items c.from-slot.result c.hear.new.self c.replace-state.ensures.states c.replace.ensures.states in
    (heard c.self.inside.slots.states.items c.replace.new.self.states.items c.args.self.now.places c.args.slot c.from-slot.result c.replace-state.result c.hear.new.self u.0 c.args.note c.self.invariant (ap (λ v. v.places) c.self.view_is)
    c.from-slot.ensures c.replace-state.ensures.was made u.1 (c.hear.ensures.told u.0)).0

pub returns-clause-told : goal.returns-clause-told
returns-clause-told c = λ p at.
    let made = put_over c.self.inside.slots.states.items c.replace-state.new.self.states.items c.replace.new.self.states.items c.from-slot.result c.hear.new.self c.replace-state.ensures.states c.replace.ensures.states in
    (heard c.self.inside.slots.states.items c.replace.new.self.states.items c.args.self.now.places c.args.slot c.from-slot.result c.replace-state.result c.hear.new.self p c.args.note c.self.invariant (ap (λ v. v.places) c.self.view_is)
    c.from-slot.ensures c.replace-state.ensures.was made at (c.hear.ensures.told p)).1
