use Rattle.std.proofs.Common.{◌≡◌, List, Some, slice_get, subst, sym, ◌∙◌, arith}
use Rattle.rds_run_callers.specs.Places.{Place, holding_of}
use Rattle.rds_host.specs.Telling.{AreBoxesTold}
use Rattle.rds_run_settling.specs.Tied.{AreTied, PlacesHear}
use Rattle.rds_run_settling.proofs.Listening.{below_at, places_hear_set, slots_told_next, some_at, used_hearing}
use Rattle.rds_run_settling.proofs.Told.{stood_at}
use Rattle.rds_run_settling.proofs.Tying.{at_map, lines_same, slots_of_hearing, tied_keeps}
use Rattle.rds_run_settling.proofs.settling.settle_slots.Goals as goal

pub tell_slot-requires-clause-tied : goal.tell_slot-requires-clause-tied
tell_slot-requires-clause-tied g c =
    subst (λ l. AreTied c.loop-slot.caller.places l) (sym c.loop-slot.invariant.0)
    (tied_keeps c.host_keeps.ensures.host c.host_keeps.ensures.passes c.args.caller.now.places c.loop-slot.caller.places c.args.lines.now c.args.lines.now
    c.requires.tied (slots_of_hearing c.args.caller.now.places c.loop-slot.caller.places c.loop-slot.invariant.1) (lines_same c.args.lines.now))

pub tell_slot-requires-clause-used : goal.tell_slot-requires-clause-used
tell_slot-requires-clause-used g c =
    let count = c.slots-slot-end.ensures.count in
    let test = c.loop-slot-test.true in
    let hear = c.loop-slot.invariant.1 in
    let same = hear.count in
    let p = some_at c.loop-slot.caller.places c.loop-slot.slot (omega (arith, count, test, same)) in
    let old = stood_at c.args.caller.now.places c.loop-slot.caller.places c.loop-slot.slot p.0 same p.1 in
    (p.0, p.1, used_hearing old.0 p.0 (hear.each c.loop-slot.slot old.0 p.0 old.1 p.1) (c.requires.used c.loop-slot.slot old.0 old.1))

pub loop-slot-preserved : goal.loop-slot-preserved
loop-slot-preserved g c =
    let count = c.slots-slot-end.ensures.count in
    let test = c.loop-slot-test.true in
    let hear = c.loop-slot.invariant.1 in
    let same = hear.count in
    let p = some_at c.loop-slot.caller.places c.loop-slot.slot (omega (arith, count, test, same)) in
    let told = c.tell_slot.ensures.places p.0 p.1 in (
      c.tell_slot.ensures.lines ∙ c.loop-slot.invariant.0,
      subst (PlacesHear c.args.caller.now.places) (sym told.1)
          (places_hear_set c.args.caller.now.places c.loop-slot.caller.places c.loop-slot.slot p.0 told.0 p.1 hear told.2),
      λ slot q below at.
          slots_told_next c.tell_slot.new.lines c.loop-slot.caller.places c.loop-slot.slot told.0 told.3
          (λ i x small is. subst (λ l. AreBoxesTold (holding_of x) l) (sym c.tell_slot.ensures.lines) (c.loop-slot.invariant.2 i x small is)) slot q below
          (subst (λ (ps : List Place). slice_get ps slot ≡ Some q) told.1 at),
    )

pub returns-clause-told : goal.returns-clause-told
returns-clause-told g c = λ slot h at.
    let p = at_map holding_of c.loop-slot.caller.places slot h at in
    let small = below_at c.loop-slot.caller.places slot p.0 p.1 in
    let count = c.slots-slot-end.ensures.count in
    let same = c.loop-slot.invariant.1.count in
    let test = c.loop-slot-test.false in
    subst (λ x. AreBoxesTold x c.loop-slot.lines) (sym p.2) (c.loop-slot.invariant.2 slot p.0 (omega (arith, small, count, same, test)) p.1)

pub returns-clause-tied : goal.returns-clause-tied
returns-clause-tied g c =
    subst (λ l. AreTied c.loop-slot.caller.places l) (sym c.loop-slot.invariant.0)
    (tied_keeps c.host_keeps.ensures.host c.host_keeps.ensures.passes c.args.caller.now.places c.loop-slot.caller.places c.args.lines.now c.args.lines.now
    c.requires.tied (slots_of_hearing c.args.caller.now.places c.loop-slot.caller.places c.loop-slot.invariant.1) (lines_same c.args.lines.now))
