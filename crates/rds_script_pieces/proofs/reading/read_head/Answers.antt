use Rattle.std.proofs.Common.{◌∙◌, [], sym}
use Rattle.std.proofs.lemmas.Bool.{eqb-true}
use Rattle.rds_script_pieces.specs.Parts.{IsPart}
use Rattle.rds_script_pieces.proofs.Pieced.{some_ok, head_is}
use Rattle.rds_script_pieces.proofs.reading.read_head.Goals as goal

pub returns-clause-head : goal.returns-clause-head
returns-clause-head c =
    let head = c.args.head.now in
    let first = c.in_ok-first.first in
    let part = some_ok (IsPart head []) c.read_piece.result first c.read_piece.ensures (c.in_ok-first.ensures {u = tt}).value in
    let none = eqb-true _ _ (sym (c.if-not-is_empty.ensures {u = tt})) in
    head_is head first c.line_count.result c.requires part (sym first.script.commands.ok.0 ∙ none) c.line_count.ensures.count
