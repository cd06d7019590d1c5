-- Pieces, as they are cut off.
use Rattle.std.proofs.Common.{◌≡◌, List, [], ◌∷◌, ◌++◌, ℕ, ap, ◌∙◌}
use Rattle.std.specs.Borrow.{Bor}
use Rattle.std.specs.List.{AllByRecursion, concat}
use Rattle.std.proofs.lemmas.List.{append_assoc, append-nil, map-append}
use Rattle.std.proofs.lemmas.List.Folds.{concat-append}
use Rattle.rds_script_pieces.specs.Pieces.{EndsLine, AreCut, contents}

abbrev Piece : Type 0
Piece = Bor (List ℕ)

-- one piece more
pub contents-push : (pieces : List Piece) (piece : Piece) → concat (contents (pieces ++ piece ∷ [])) ≡ concat (contents pieces) ++ piece.now
contents-push pieces piece =
    ap concat (map-append (λ (p : Piece). p.now) pieces (piece ∷ [])) ∙ concat-append (contents pieces) (piece.now ∷ []) ∙ ap (λ (t : List ℕ). concat (contents pieces) ++ t) (append-nil piece.now)

-- the next piece is cut off what was left
pub cut_off : (pieces : List Piece) (piece : Piece) (rest text : List ℕ) → concat (contents pieces) ++ (piece.now ++ rest) ≡ text → concat (contents (pieces ++ piece ∷ [])) ++ rest ≡ text
cut_off pieces piece rest text e =
    ap (λ (t : List ℕ). t ++ rest) (contents-push pieces piece) ∙ append_assoc (concat (contents pieces)) piece.now rest ∙ e

pub ended-push : (pieces : List Piece) (piece : Piece) → AllByRecursion EndsLine (contents pieces) → EndsLine piece.now → AllByRecursion EndsLine (contents (pieces ++ piece ∷ []))
ended-push [] piece all ends = (ends, tt)
ended-push (p ∷ pieces) piece all ends = (all.0, ended-push pieces piece all.1 ends)

-- a last piece may end anywhere
pub are_cut : (pieces : List Piece) (last : Piece) → AllByRecursion EndsLine (contents pieces) → AreCut (contents (pieces ++ last ∷ []))
are_cut [] last all = tt
are_cut (p ∷ []) last all = (all.0, tt)
are_cut (p ∷ q ∷ pieces) last all = (all.0, are_cut (q ∷ pieces) last all.1)
