use Rattle.std.proofs.Common.{◌≡◌, ◌++◌, ◌∙◌, ap, sym, subst, List, ℕ}
use Rattle.std.specs.List.{AllByRecursion, concat}
use Rattle.std.specs.Borrow.{Bor}
use Rattle.std.proofs.lemmas.List.{take-append-drop}
use Rattle.rds_script_pieces.specs.Pieces.{EndsLine, AreCut, contents}
use Rattle.rds_script_pieces.proofs.Cuts.{cut_off, ended-push, contents-push, are_cut}
use Rattle.rds_script_pieces.proofs.cutting.cut.Goals as goal

pub loop-rest-preserved : goal.loop-rest-preserved
loop-rest-preserved c =
    let items = c.in_ok-push.ensures {u = tt} in
    let pieces = c.loop-rest.pieces.items in
    let piece = c.split_at.result.0 in
    let rest = c.loop-rest.rest.now in
    let end = c.in-Some.end in
    let parts : piece.now ++ c.split_at.result.1.now ≡ rest = rw (c.split_at.ensures.front, c.split_at.ensures.back) (take-append-drop end rest) in
    let ends : EndsLine piece.now = subst EndsLine (sym c.split_at.ensures.front) (c.in-Some.ensures {u = tt}).ended in
    record {
      whole = ap (λ (l : List (Bor (List ℕ))). concat (contents l) ++ c.split_at.result.1.now) items.items
          ∙ cut_off pieces piece c.split_at.result.1.now c.args.text.now (ap (λ (t : List ℕ). concat (contents pieces) ++ t) parts ∙ c.loop-rest.invariant.whole);
      ended = subst (λ (l : List (Bor (List ℕ))). AllByRecursion EndsLine (contents l)) (sym items.items) (ended-push pieces piece c.loop-rest.invariant.ended ends);
    }

pub returns-clause-whole : goal.returns-clause-whole
returns-clause-whole c =
    let items = c.in_ok-push-2.ensures {u = tt} in
    ap (λ (l : List (Bor (List ℕ))). concat (contents l)) items.items ∙ contents-push c.loop-rest.pieces.items c.loop-rest.rest ∙ c.loop-rest.invariant.whole

pub returns-clause-ended : goal.returns-clause-ended
returns-clause-ended c =
    let items = c.in_ok-push-2.ensures {u = tt} in
    subst (λ (l : List (Bor (List ℕ))). AreCut (contents l)) (sym items.items) (are_cut c.loop-rest.pieces.items c.loop-rest.rest c.loop-rest.invariant.ended)
