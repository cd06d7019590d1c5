-- Words behind one another.
use Rattle.std.proofs.Common.{◌≡◌, ◌∙◌, ◌++◌, ◌∷◌, [], ℕ, List, ap, refl, append_assoc}
use Rattle.rds_text.specs.Lines.{phrase, text_line}

-- words and a line
pub phrase_line : (words more : List (List ℕ)) → phrase words ++ text_line more ≡ text_line (words ++ more)
phrase_line [] more = refl
phrase_line (word ∷ []) more = refl
phrase_line (word ∷ next ∷ words) more =
    append_assoc word (phrase (next ∷ words)) (text_line more) ∙ ap (λ (l : List ℕ). word ++ l) (phrase_line (next ∷ words) more)
