use Rattle.std.proofs.Common.{◌<◌, List, get_or, length, subst, sym, ◌∙◌, arith}
use Rattle.std.proofs.lemmas.Option.{slice_get-get_or}
use Rattle.rds_run_callers.specs.Places.{Place}
use Rattle.rds_run_settling.specs.Steps.{AreAtTable, ArePortsToldTo}
use Rattle.rds_run_settling.specs.Tied.{ArePortsTold, AreTied}
use Rattle.rds_run_settling.proofs.Listening.{below_at}
use Rattle.rds_run_settling.proofs.Ports.{all_ports_told, at_table, learn_set, lines_learned, lines_ports_next}
use Rattle.rds_run_settling.proofs.Tying.{slots_same, tied_keeps}
use Rattle.rds_run_settling.specs.Tied.{holdings}
use Rattle.rds_run_settling.proofs.settling.settle_ports.Goals as goal

pub tell_ports-requires : goal.tell_ports-requires
tell_ports-requires g c =
    let test = c.loop-place-test.true in
    let count = c.loop-place.invariant.1.count in
    let small : c.loop-place.place < length c.loop-place.lines = omega (arith, test, count) in
    subst (λ (ps : List Place). AreAtTable ps (get_or c.loop-place.lines c.loop-place.place c.index-lines-place.result)) (sym c.loop-place.invariant.0)
    (at_table c.args.caller.now.places c.args.lines.now c.loop-place.lines c.loop-place.place (get_or c.loop-place.lines c.loop-place.place c.index-lines-place.result) c.requires
    c.loop-place.invariant.1 (slice_get-get_or c.loop-place.lines c.loop-place.place c.index-lines-place.result small))

pub loop-place-preserved : goal.loop-place-preserved
loop-place-preserved g c =
    let test = c.loop-place-test.true in
    let count = c.loop-place.invariant.1.count in
    let small : c.loop-place.place < length c.loop-place.lines = omega (arith, test, count) in (
      c.tell_ports.ensures.same ∙ c.loop-place.invariant.0,
      learn_set c.args.lines.now c.loop-place.lines c.loop-place.place (get_or c.loop-place.lines c.loop-place.place c.index-lines-place.result) c.tell_ports.new.line
          (slice_get-get_or c.loop-place.lines c.loop-place.place c.index-lines-place.result small) c.loop-place.invariant.1 c.tell_ports.ensures.line,
      lines_ports_next c.args.caller.now.places c.loop-place.lines c.loop-place.place c.tell_ports.new.line
          (subst (λ (ps : List Place). ArePortsToldTo (length ps) ps c.tell_ports.new.line) c.loop-place.invariant.0 c.tell_ports.ensures.told)
          c.loop-place.invariant.2,
    )

pub returns-clause-told : goal.returns-clause-told
returns-clause-told g c =
    let test = c.loop-place-test.false in
    subst (λ (ps : List Place). ArePortsTold ps c.loop-place.lines) (sym c.loop-place.invariant.0)
    (all_ports_told c.args.caller.now.places c.loop-place.lines (λ place line at.
    let small = below_at c.loop-place.lines place line at in
    c.loop-place.invariant.2 place line (omega (arith, small, test)) at))

pub returns-clause-tied : goal.returns-clause-tied
returns-clause-tied g c =
    subst (λ (ps : List Place). AreTied ps c.loop-place.lines) (sym c.loop-place.invariant.0)
    (tied_keeps c.host_keeps.ensures.host c.host_keeps.ensures.passes c.args.caller.now.places c.args.caller.now.places c.args.lines.now c.loop-place.lines c.requires
    (slots_same (holdings c.args.caller.now.places)) (lines_learned c.args.lines.now c.loop-place.lines c.loop-place.invariant.1))
