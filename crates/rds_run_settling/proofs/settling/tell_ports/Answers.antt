use Rattle.std.proofs.Common.{◌≡◌, ◌+◌, List, Some, slice_get, refl, subst, sym, ◌∙◌, arith}
use Rattle.rds_run_callers.specs.Places.{Place, holding_of}
use Rattle.rds_run_settling.specs.Steps.{ArePortsToldTo}
use Rattle.rds_run_settling.specs.Tied.{LineLearnsPorts}
use Rattle.rds_run_settling.proofs.Listening.{some_at}
use Rattle.rds_run_settling.proofs.Ports.{learns_next, learns_none, none_told_of, ports_told_next, table_at}
use Rattle.rds_run_settling.proofs.settling.tell_ports.Goals as goal

pub loop-slot-init : goal.loop-slot-init
loop-slot-init g c = (refl, learns_none c.args.line.now, none_told_of c.args.caller.now.places c.args.line.now)

pub tell_port-requires : goal.tell_port-requires
tell_port-requires g c =
    let count = c.slots-slot-end.ensures.count in
    let test = c.loop-slot-test.true in
    record {
      table = subst (λ (ps : List Place). (p : Place) × (slice_get ps c.loop-slot.slot ≡ Some p) × ((holding_of p).ports.table ≡ c.loop-slot.line.ports.table))
          (sym c.loop-slot.invariant.0)
          (table_at c.args.caller.now.places c.loop-slot.slot c.args.line.now c.loop-slot.line c.requires c.loop-slot.invariant.1 (omega (arith, count, test)));
    }

pub loop-slot-preserved : goal.loop-slot-preserved
loop-slot-preserved g c =
    let count = c.slots-slot-end.ensures.count in
    let test = c.loop-slot-test.true in
    let p = some_at c.args.caller.now.places c.loop-slot.slot (omega (arith, count, test)) in
    let is = c.tell_port.ensures.told p.0 (subst (λ (ps : List Place). slice_get ps c.loop-slot.slot ≡ Some p.0) (sym c.loop-slot.invariant.0) p.1) in (
      c.tell_port.ensures.same ∙ c.loop-slot.invariant.0,
      subst (LineLearnsPorts c.args.line.now) (sym is) (learns_next p.0 c.args.line.now c.loop-slot.line c.loop-slot.invariant.1),
      subst (ArePortsToldTo (c.loop-slot.slot + 1) c.args.caller.now.places) (sym is)
          (ports_told_next c.loop-slot.slot c.args.caller.now.places p.0 c.loop-slot.line p.1 c.loop-slot.invariant.2),
    )

pub returns-clause-told : goal.returns-clause-told
returns-clause-told g c = λ slot o got below at.
    let count = c.slots-slot-end.ensures.count in
    let test = c.loop-slot-test.false in
    c.loop-slot.invariant.2 slot o got (omega (arith, count, test, below)) at
