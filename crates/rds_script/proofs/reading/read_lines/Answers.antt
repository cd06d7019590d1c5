use Rattle.std.proofs.Common.{arith, ap, sym, ◌∙◌}
use Rattle.std.proofs.lemmas.Bool.{eqb-true}
use Rattle.rds_script.specs.Grammar.{meaning}
use Rattle.rds_script.specs.Reading.{lines_at}
use Rattle.rds_script.proofs.Steps.{stops, goes_on, fails, ends}
use Rattle.rds_script.proofs.reading.read_lines.Goals as goal

pub returns-then-number-eq-MAX_LINES : goal.returns-then-number-eq-MAX_LINES
returns-then-number-eq-MAX_LINES c =
    let s = meaning c.loop-rest.draft.script in
    let step = stops s c.loop-rest.number c.first_line.result.0.now _ c.if-number-eq-MAX_LINES.true in
    rw c.refused.ensures (sym c.loop-rest.invariant.0 ∙ ap (lines_at s c.loop-rest.number) c.first_line.ensures.lines ∙ step)

pub returns-in-Err : goal.returns-in-Err
returns-in-Err c =
    let s = meaning c.loop-rest.draft.script in
    let step = fails s c.loop-rest.number c.first_line.result.0.now _ c.in-Err.fault c.if-number-eq-MAX_LINES.false (c.in-Err.ensures {u = tt}) in
    rw (c.at.ensures, ← c.loop-rest.invariant.0, c.first_line.ensures.lines) step

pub loop-rest-preserved : goal.loop-rest-preserved
loop-rest-preserved c =
    let s = meaning c.loop-rest.draft.script in
    let e = goes_on s (meaning c.read_line.new.self.script) c.loop-rest.number c.first_line.result.0.now _ c.if-number-eq-MAX_LINES.false (c.in_default-read_line.ensures {u = tt}) in
    (sym e ∙ sym (ap (lines_at s c.loop-rest.number) c.first_line.ensures.lines) ∙ c.loop-rest.invariant.0, omega arith)

pub returns : goal.returns
returns c =
    sym c.loop-rest.invariant.0 ∙ ends (meaning c.loop-rest.draft.script) c.loop-rest.number c.loop-rest.rest.now (eqb-true _ _ (sym (c.loop-rest-test.ensures {u = tt})))
