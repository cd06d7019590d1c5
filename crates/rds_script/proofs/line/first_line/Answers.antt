use Rattle.std.proofs.Common.{refl, arith, sym, ◌∙◌}
use Rattle.rds_script.proofs.Lines.{lines-first, lines-last}
use Rattle.rds_script.proofs.line.first_line.Goals as goal

pub returns-then-end-text-clause-lines : goal.returns-then-end-text-clause-lines
returns-then-end-text-clause-lines c =
    lines-last c.args.text.now c.requires (sym c.line_end-end.ensures.place ∙ c.if-end-text.true)

pub returns-clause-lines : goal.returns-clause-lines
returns-clause-lines c =
    lines-first _ _ _ _ c.line_end-end.ensures.place (omega arith) c.without_return.ensures refl
