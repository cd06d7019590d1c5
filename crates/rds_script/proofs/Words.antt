-- The first word of a line and the words after it.
use Rattle.std.proofs.Common.{◌≡◌, ℕ, suc, ◌+◌, ◌-◌, Bool, true, false, ltb, List, [], ◌∷◌, length, take, drop, get_or, filter, refl, ap, ◌∙◌, arith}
use Rattle.std.specs.List.{slice_split, prefix_len, position_or_len}
use Rattle.std.proofs.lemmas.Bool.{lt-ltb}
use Rattle.std.proofs.lemmas.List.{take_rest}
use Rattle.std.proofs.lemmas.List.Splits.{slice_split-cons_yes, slice_split-cons_no}
use Rattle.rds_script.specs.Text.{is_blank, words}

abbrev is_filled : List ℕ → Bool
is_filled w = ltb 0 (length w)

one_more : (n : ℕ) → 1 + n ≡ suc n
one_more n = omega arith

module _ (p : ℕ → Bool) where
  -- what stands between the bytes that pass
  abbrev between_by : List ℕ → List (List ℕ)
  between_by line = filter is_filled (slice_split p line)

  ends_here : (b : ℕ) (line : List ℕ) → p b ≡ true → position_or_len p (b ∷ line) ≡ 0
  ends_here b line e = rw e refl

  ends_later : (b : ℕ) (line : List ℕ) → p b ≡ false → position_or_len p (b ∷ line) ≡ suc (position_or_len p line)
  ends_later b line e = rw e (one_more (position_or_len p line))

  starts_here : (b : ℕ) (line : List ℕ) → p b ≡ false → prefix_len p (b ∷ line) ≡ 0
  starts_here b line e = rw e refl

  starts_later : (b : ℕ) (line : List ℕ) → p b ≡ true → prefix_len p (b ∷ line) ≡ suc (prefix_len p line)
  starts_later b line e = rw e (one_more (prefix_len p line))

  -- the parts of a line: what stands before the first that passes, and parts whose filled ones are those of the rest
  record Front (line : List ℕ) : Type 0 where
    parts : List (List ℕ)
    split : slice_split p line ≡ take (position_or_len p line) line ∷ parts
    rest : filter is_filled parts ≡ between_by (drop (position_or_len p line) line)

  front : (line : List ℕ) → Front line
  front [] = record { parts = []; split = refl; rest = refl }
  front (b ∷ line) = go (p b) refl (front line)
    where
      go : (t : Bool) → p b ≡ t → Front line → Front (b ∷ line)
      go true e f =
          let s = slice_split-cons_yes p b line e in
          let n = ends_here b line e in
          record {
            parts = slice_split p line;
            split = rw (n, s) refl;
            rest = rw (n, s) refl;
          }
      go false e f =
          let s = slice_split-cons_no p b line e in
          let n = ends_later b line e in
          record {
            parts = f.parts;
            split = rw (n, s, f.split) refl;
            rest = rw n f.rest;
          }

  between-blank : (b : ℕ) (line : List ℕ) → p b ≡ true → between_by (b ∷ line) ≡ between_by line
  between-blank b line e = ap (filter is_filled) (slice_split-cons_yes p b line e)

  between-word : (b : ℕ) (line : List ℕ) → p b ≡ false → between_by (b ∷ line) ≡ (b ∷ take (position_or_len p line) line) ∷ between_by (drop (position_or_len p line) line)
  between-word b line e =
      let f = front line in
      let s : slice_split p (b ∷ line) ≡ (b ∷ take (position_or_len p line) line) ∷ f.parts = rw (slice_split-cons_no p b line e, f.split) refl in
      let filled : is_filled (b ∷ take (position_or_len p line) line) ≡ true = lt-ltb 0 _ (omega arith) in
      ap (filter is_filled) s ∙ rw filled (ap (λ (ws : List (List ℕ)). (b ∷ take (position_or_len p line) line) ∷ ws) f.rest)

  abbrev start : List ℕ → List ℕ
  start line = drop (prefix_len p line) line

  -- the first word, and the words of what follows it
  record FoundBy (line word rest : List ℕ) : Type 0 where
    first : word ≡ get_or (between_by line) 0 []
    after : between_by rest ≡ drop 1 (between_by line)
    none : length word ≡ 0 → between_by line ≡ []

  abbrev Finds : List ℕ → Type 0
  Finds line = FoundBy line (take (position_or_len p (start line)) (start line)) (drop (position_or_len p (start line)) (start line))

  finds : (line : List ℕ) → Finds line
  finds [] = record { first = refl; after = refl; none = λ _. refl }
  finds (b ∷ line) = go (p b) refl (finds line)
    where
      go : (t : Bool) → p b ≡ t → Finds line → Finds (b ∷ line)
      go true e f =
          let w = between-blank b line e in
          let n = starts_later b line e in
          rw n (record { first = rw w f.first; after = rw w f.after; none = λ z. rw w (f.none z) })
      go false e f =
          let w = between-word b line e in
          let n = starts_here b line e in
          let k = ends_later b line e in
          rw (n, k) (record { first = rw w refl; after = rw w refl; none = λ z. absurd cc })

pub record Found (line word rest : List ℕ) : Type 0 where
  pub first : word ≡ get_or (words line) 0 []
  pub after : words rest ≡ drop 1 (words line)
  pub none : length word ≡ 0 → words line ≡ []

found : (line : List ℕ) → Found line (take (position_or_len is_blank (drop (prefix_len is_blank line) line)) (drop (prefix_len is_blank line) line)) (drop (position_or_len is_blank (drop (prefix_len is_blank line) line)) (drop (prefix_len is_blank line) line))
unfolding words
found line = let f = finds is_blank line in record { first = f.first; after = f.after; none = f.none }

-- the same, where the places have names
pub found_at : (line part word rest : List ℕ) (k n : ℕ) → k ≡ prefix_len is_blank line → part ≡ take (length line - k) (drop k line) → n ≡ position_or_len is_blank part → word ≡ take n part → rest ≡ drop n part → Found line word rest
found_at line part word rest k n k-is part-is n-is word-is rest-is =
    let p : part ≡ drop (prefix_len is_blank line) line = part-is ∙ take_rest line k ∙ ap (λ (i : ℕ). drop i line) k-is in
    rw (word-is, rest-is, n-is, p) (found line)
