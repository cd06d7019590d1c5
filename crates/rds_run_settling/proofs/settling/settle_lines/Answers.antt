use Rattle.std.proofs.Common.{◌≡◌, ◌<◌, ℕ, List, Some, get_or, length, map, slice_get, subst, sym, ◌∙◌, arith}
use Rattle.std.proofs.lemmas.Option.{slice_get-get_or}
use Rattle.rds_run_callers.specs.Places.{IsUsed, Place, spared}
use Rattle.rds_host.specs.Telling.{AreOrdersTold}
use Rattle.rds_run_settling.specs.Steps.{CanTellLine}
use Rattle.rds_run_settling.specs.Tied.{AreTied, holdings}
use Rattle.rds_run_settling.proofs.Listening.{below_at, can_tell, hear_set, lines_told_next}
use Rattle.rds_run_settling.proofs.Tying.{all_used, holdings_spared, tied_spared}
use Rattle.rds_run_settling.proofs.settling.settle_lines.Goals as goal

pub tell_line-requires : goal.tell_line-requires
tell_line-requires g c =
    let test = c.loop-place-test.true in
    let count = c.loop-place.invariant.1.count in
    let small : c.loop-place.place < length c.loop-place.lines = omega (arith, test, count) in
    subst (λ (ps : List Place). CanTellLine ps c.loop-place.place (get_or c.loop-place.lines c.loop-place.place c.index-lines-place.result)) (sym c.loop-place.invariant.0)
    (can_tell c.args.caller.now.places (map spared c.args.caller.now.places) c.args.lines.now c.loop-place.lines c.loop-place.place (get_or c.loop-place.lines c.loop-place.place c.index-lines-place.result) c.requires
    (holdings_spared c.args.caller.now.places) (all_used c.args.caller.now.places) c.loop-place.invariant.1
    (slice_get-get_or c.loop-place.lines c.loop-place.place c.index-lines-place.result small))

pub loop-place-preserved : goal.loop-place-preserved
loop-place-preserved g c =
    let test = c.loop-place-test.true in
    let count = c.loop-place.invariant.1.count in
    let small : c.loop-place.place < length c.loop-place.lines = omega (arith, test, count) in (
      c.tell_line.ensures.same ∙ c.loop-place.invariant.0,
      hear_set c.args.lines.now c.loop-place.lines c.loop-place.place (get_or c.loop-place.lines c.loop-place.place c.index-lines-place.result) c.tell_line.new.line
          (slice_get-get_or c.loop-place.lines c.loop-place.place c.index-lines-place.result small) c.loop-place.invariant.1 c.tell_line.ensures.line,
      lines_told_next (holdings c.tell_line.new.caller.places) c.loop-place.lines c.loop-place.place c.tell_line.new.line
          (subst (λ (ps : List Place). AreOrdersTold (holdings ps) c.loop-place.place c.tell_line.new.line) (sym c.tell_line.ensures.same) c.tell_line.ensures.told)
          (λ place line below at. subst (λ (ps : List Place). AreOrdersTold (holdings ps) place line) (sym c.tell_line.ensures.same)
          (c.loop-place.invariant.2 place line below at)),
    )

pub returns-clause-told : goal.returns-clause-told
returns-clause-told g c = λ place line at.
    let small = below_at c.loop-place.lines place line at in
    let test = c.loop-place-test.false in
    c.loop-place.invariant.2 place line (omega (arith, small, test)) at

pub returns-clause-used : goal.returns-clause-used
returns-clause-used g c =
    subst (λ (ps : List Place). (slot : ℕ) (p : Place) → slice_get ps slot ≡ Some p → IsUsed p) (sym c.loop-place.invariant.0) (all_used c.args.caller.now.places)

pub returns-clause-tied : goal.returns-clause-tied
returns-clause-tied g c =
    subst (λ (ps : List Place). AreTied ps c.loop-place.lines) (sym c.loop-place.invariant.0)
    (tied_spared c.host_keeps.ensures.host c.host_keeps.ensures.passes c.args.caller.now.places c.args.lines.now c.loop-place.lines c.requires c.loop-place.invariant.1)
