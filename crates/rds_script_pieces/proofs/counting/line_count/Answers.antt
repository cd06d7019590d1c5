use Rattle.std.proofs.Common.{◌∙◌, ◌+◌, ℕ, Some, sym, ap, arith}
use Rattle.std.proofs.lemmas.Bool.{ne_eqb}
use Rattle.rds_script_pieces.proofs.Lines.{count-last_end, count-last_other}
use Rattle.rds_script_pieces.proofs.counting.line_count.Goals as goal

pub returns-then-last-eq10 : goal.returns-then-last-eq10
returns-then-last-eq10 c =
    let text = c.args.text.now in
    let last = (c.in-Some.ensures {u = tt}).value in
    record {
      count = c.end_count-ends.ensures.count ∙ count-last_end text (ap Some (sym c.if-last-eq10.true) ∙ last);
      few = omega arith;
    }

pub returns-else-last-eq10 : goal.returns-else-last-eq10
returns-else-last-eq10 c =
    let text = c.args.text.now in
    let last = (c.in-Some.ensures {u = tt}).value in
    record {
      count = ap (λ (n : ℕ). n + 1) c.end_count-ends.ensures.count ∙ count-last_other text c.in-Some.last.now last (ne_eqb _ _ c.if-last-eq10.false);
      few = omega arith;
    }
