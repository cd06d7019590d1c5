use Rattle.std.proofs.Common.{◌≡◌, ◌<◌, ◌+◌, List, Some, length, slice_get, ap, subst, sym, ◌∙◌, arith}
use Rattle.rds_fmap.specs.Readers.{ReaderView}
use Rattle.rds_socket_parts.specs.Lanes.{IsLaneAt, Lane}
use Rattle.rds_run_callers.specs.Places.{IsUsed, Place, holding_of}
use Rattle.rds_run_settling.specs.Steps.{AreSlotsToldTo}
use Rattle.rds_run_settling.specs.Tied.{LineHears}
use Rattle.rds_run_settling.proofs.Listening.{hears_note, note_mail, told_all, told_next, used_at}
use Rattle.rds_run_settling.proofs.settling.tell_line.Goals as goal

pub order_note-requires : goal.order_note-requires
order_note-requires g c =
    let count = c.slots-slot-end.ensures.count in
    let test = c.loop-slot-test.true in
    record {
      used = subst (λ (ps : List Place). (p : Place) × (slice_get ps c.loop-slot.slot ≡ Some p) × IsUsed p × (c.args.place < length (holding_of p).routes))
          (sym c.loop-slot.invariant.0)
          (used_at c.args.caller.now.places c.args.place c.loop-slot.slot c.args.line.now c.requires (omega (arith, count, test)));
    }

pub hear_orders-requires : goal.hear_orders-requires
hear_orders-requires g c =
    let count = c.slots-slot-end.ensures.count in
    let test = c.loop-slot-test.true in
    note_mail c.args.caller.now.places c.args.place c.loop-slot.slot c.args.line.now c.loop-slot.line c.order_note.result c.requires (omega (arith, count, test))
    c.loop-slot.invariant.1
    (subst (λ (ps : List Place). (p : Place) → slice_get ps c.loop-slot.slot ≡ Some p →
    (lane : Lane ReaderView) × IsLaneAt (holding_of p).routes c.args.place lane × (c.order_note.result ≡ lane.pass))
    c.loop-slot.invariant.0 c.order_note.ensures.note)

pub loop-slot-preserved : goal.loop-slot-preserved
loop-slot-preserved g c = (
  ap (λ v. v.places) c.order_note.ensures.same ∙ c.loop-slot.invariant.0,
  subst (LineHears c.args.line.now) (sym c.hear_orders.ensures) (hears_note c.args.line.now c.loop-slot.line c.order_note.result c.loop-slot.invariant.1),
  subst (AreSlotsToldTo (c.loop-slot.slot + 1) c.args.caller.now.places c.args.place) (sym c.hear_orders.ensures)
      (told_next c.loop-slot.slot c.args.place c.args.caller.now.places c.loop-slot.line c.order_note.result
      (subst (λ (ps : List Place). (p : Place) → slice_get ps c.loop-slot.slot ≡ Some p →
      (lane : Lane ReaderView) × IsLaneAt (holding_of p).routes c.args.place lane × (c.order_note.result ≡ lane.pass))
      c.loop-slot.invariant.0 c.order_note.ensures.note)
      c.loop-slot.invariant.2),
)

pub returns-clause-told : goal.returns-clause-told
returns-clause-told g c =
    let count = c.slots-slot-end.ensures.count in
    let test = c.loop-slot-test.false in
    told_all c.loop-slot.slot c.args.place c.args.caller.now.places c.loop-slot.line (omega (arith, count, test)) c.loop-slot.invariant.2
