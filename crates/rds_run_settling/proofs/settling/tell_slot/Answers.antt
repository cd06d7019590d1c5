use Rattle.std.proofs.Common.{◌≡◌, ◌<◌, List, Some, get_or, length, slice_get, slice_set, ap, refl, subst, sym, ◌∙◌, arith}
use Rattle.std.proofs.lemmas.Option.{slice_get-get_or}
use Rattle.rds_host.specs.Telling.{AreBoxesTold}
use Rattle.rds_run_callers.specs.Places.{Place, holding_of, told_by}
use Rattle.rds_run_settling.proofs.Listening.{box_mail, box_there, box_told_next, boxes_told_all, none_told, place_hears_none, place_hears_note, set_same, set_there, set_twice, used_hearing}
use Rattle.rds_run_settling.proofs.settling.tell_slot.Goals as goal

pub loop-place-init : goal.loop-place-init
loop-place-init g c = (
  refl,
  λ p at. (p, sym (set_same c.args.caller.now.places c.args.slot p at), place_hears_none p, none_told c.args.lines.now (holding_of p)),
)

pub inbox_note-requires : goal.inbox_note-requires
inbox_note-requires g c =
    let test = c.loop-place-test.true in
    let count = ap length c.loop-place.invariant.0 in
    let small : c.loop-place.place < length c.loop-place.lines = omega (arith, test, count) in
    let p = c.requires.used in
    box_there c.args.caller.now.places c.args.lines.now c.args.slot c.loop-place.place p.0 (get_or c.loop-place.lines c.loop-place.place c.index-lines-place.result) c.requires.tied p.1
    (subst (λ l. slice_get l c.loop-place.place ≡ Some (get_or c.loop-place.lines c.loop-place.place c.index-lines-place.result)) c.loop-place.invariant.0
    (slice_get-get_or c.loop-place.lines c.loop-place.place c.index-lines-place.result small))

pub hear-requires : goal.hear-requires
hear-requires g c =
    let test = c.loop-place-test.true in
    let count = ap length c.loop-place.invariant.0 in
    let small : c.loop-place.place < length c.loop-place.lines = omega (arith, test, count) in
    let p = c.requires.used in
    let now = c.loop-place.invariant.1 p.0 p.1 in
    let there = subst (λ (l : List Place). slice_get l c.args.slot ≡ Some now.0) (sym now.1) (set_there c.args.caller.now.places c.args.slot p.0 now.0 p.1) in
    let line = subst (λ l. slice_get l c.loop-place.place ≡ Some (get_or c.loop-place.lines c.loop-place.place c.index-lines-place.result)) c.loop-place.invariant.0
    (slice_get-get_or c.loop-place.lines c.loop-place.place c.index-lines-place.result small) in
    record {
      used = (
        now.0,
        there,
        used_hearing p.0 now.0 now.2 p.2,
        box_mail c.args.caller.now.places c.args.lines.now c.args.slot c.loop-place.place p.0 now.0 (get_or c.loop-place.lines c.loop-place.place c.index-lines-place.result) c.inbox_note.result c.requires.tied p.1 line now.2
            c.inbox_note.ensures.note,
      );
    }

pub loop-place-preserved : goal.loop-place-preserved
loop-place-preserved g c =
    let test = c.loop-place-test.true in
    let count = ap length c.loop-place.invariant.0 in
    let small : c.loop-place.place < length c.loop-place.lines = omega (arith, test, count) in
    let here = slice_get-get_or c.loop-place.lines c.loop-place.place c.index-lines-place.result small in
    let line = subst (λ l. slice_get l c.loop-place.place ≡ Some (get_or c.loop-place.lines c.loop-place.place c.index-lines-place.result)) c.loop-place.invariant.0 here in (
      ap (slice_set c.loop-place.lines c.loop-place.place) c.inbox_note.ensures.same
          ∙ (set_same c.loop-place.lines c.loop-place.place (get_or c.loop-place.lines c.loop-place.place c.index-lines-place.result) here ∙ c.loop-place.invariant.0),
      λ p at.
          let now = c.loop-place.invariant.1 p at in
          let there = subst (λ (l : List Place). slice_get l c.args.slot ≡ Some now.0) (sym now.1) (set_there c.args.caller.now.places c.args.slot p now.0 at) in (
            told_by now.0 c.inbox_note.result,
            c.hear.ensures.told now.0 there
                ∙ (ap (λ (l : List Place). slice_set l c.args.slot (told_by now.0 c.inbox_note.result)) now.1
                ∙ set_twice c.args.caller.now.places c.args.slot now.0 (told_by now.0 c.inbox_note.result)),
            place_hears_note p now.0 c.inbox_note.result now.2,
            box_told_next c.args.caller.now.places c.args.lines.now c.args.slot c.loop-place.place p now.0 (get_or c.loop-place.lines c.loop-place.place c.index-lines-place.result) c.inbox_note.result c.requires.tied at line now.2
                c.inbox_note.ensures.note now.3,
          ),
    )

pub returns-clause-places : goal.returns-clause-places
returns-clause-places g c = λ p at.
    let now = c.loop-place.invariant.1 p at in
    let test = c.loop-place-test.false in
    let count = ap length c.loop-place.invariant.0 in (
      now.0,
      now.1,
      now.2,
      subst (λ l. AreBoxesTold (holding_of now.0) l) (sym c.loop-place.invariant.0)
          (boxes_told_all c.args.lines.now c.loop-place.place (holding_of now.0) (omega (arith, test, count)) now.3),
    )
