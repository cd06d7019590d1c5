-- The first line of a text and the lines after it.
use Rattle.std.proofs.Common.{◌≡◌, ℕ, ◌+◌, ◌-◌, ◌<◌, Bool, true, false, eqb, List, [], ◌∷◌, length, take, drop, refl, ap, ◌∙◌, arith}
use Rattle.std.specs.List.{slice_split, position_or_len, before_first, after_first, All}
use Rattle.std.specs.Str.Lines.{lines, lines_of_parts, strip_carriage_return}
use Rattle.std.proofs.lemmas.Bool.{ne_eqb}
use Rattle.std.proofs.lemmas.List.{take_rest}
use Rattle.std.proofs.lemmas.List.Elements.{All-from_get_or}
use Rattle.std.proofs.lemmas.List.Sums.{fails_before_first}
use Rattle.std.proofs.lemmas.List.Splits.{slice_split_first, slice_split_none}
use Rattle.rds_script.specs.Text.{is_end}

-- the parts of a text are at least one
abbrev HasPart : List ℕ → Type 0
HasPart text = (part : List ℕ) × (parts : List (List ℕ)) × (slice_split is_end text ≡ part ∷ parts)

has_part : (text : List ℕ) → HasPart text
has_part [] = ([], [], refl)
has_part (b ∷ text) = go (is_end b) refl (has_part text)
  where
    go : (t : Bool) → is_end b ≡ t → HasPart text → HasPart (b ∷ text)
    go true e f = ([], slice_split is_end text, rw e refl)
    go false e f = (b ∷ f.0, f.1, rw (e, f.2) refl)

-- a line with its end
lines-ended : (text : List ℕ) → position_or_len is_end text < length text → lines text ≡ strip_carriage_return (before_first is_end text) ∷ lines (after_first is_end text)
lines-ended text lt =
    let split = slice_split_first is_end text 0 lt in
    let more = has_part (after_first is_end text) in
    ap lines_of_parts split ∙ rw more.2 refl

-- a last line that lacks its end
pub lines-last : (text : List ℕ) → 0 < length text → position_or_len is_end text ≡ length text → lines text ≡ text ∷ []
lines-last [] some all = absurd (omega arith)
lines-last (b ∷ text) some all =
    let none : All (λ x. is_end x ≡ false) (b ∷ text) = All-from_get_or (λ x. is_end x ≡ false) (b ∷ text) 0 (λ i lt. fails_before_first is_end (b ∷ text) i 0 (omega arith)) in
    let filled : eqb (length (b ∷ text)) 0 ≡ false = ne_eqb _ _ (λ e. absurd (omega arith)) in
    ap lines_of_parts (slice_split_none is_end (b ∷ text) none) ∙ rw filled refl

-- the same, where the places have names
pub lines-first : (text line rest : List ℕ) (n : ℕ) → n ≡ position_or_len is_end text → n < length text → line ≡ strip_carriage_return (take n text) → rest ≡ take (length text - (n + 1)) (drop (n + 1) text) → lines text ≡ line ∷ lines rest
lines-first text line rest n n-is lt line-is rest-is =
    let e = lines-ended text (omega arith) in
    let r : rest ≡ after_first is_end text = rest-is ∙ take_rest text (n + 1) ∙ ap (λ (i : ℕ). drop (i + 1) text) n-is in
    e ∙ rw (line-is, r, n-is) refl
