-- Commands that are moved down, one by one.
use Rattle.std.proofs.Common.{◌≡◌, ℕ, ◌+◌, ◌<◌, List, [], ◌∷◌, ◌++◌, length, map, take, drop, get_or, add-zero, arith, sym, ap, subst, ◌∙◌}
use Rattle.std.specs.Prelude.{All}
use Rattle.std.proofs.Math.ListN.{set}
use Rattle.std.proofs.lemmas.List.Elements.{All-get_or}
use Rattle.std.proofs.lemmas.List.{take_more, take_more_set, map-append, get_or-drop, drop-drop, drop-set-lt}

module _ {X : Type 0} (f : X → X) (now old : List X) (i : ℕ) (d : X) (in_now : i < length now) (in_old : i < length old)
    (left : drop i now ≡ drop i old) where
  same : get_or now i d ≡ get_or old i d
  same =
      ap (λ (k : ℕ). get_or now k d) (sym (add-zero i)) ∙ sym (get_or-drop i now 0 d) ∙ ap (λ (l : List X). get_or l 0 d) left ∙ get_or-drop i old 0 d ∙ ap (λ (k : ℕ). get_or old k d) (add-zero i)

  pub mapped_more : take i now ≡ map f (take i old) → take (i + 1) (set now i (f (get_or now i d))) ≡ map f (take (i + 1) old)
  mapped_more done =
      take_more_set now i (f (get_or now i d)) in_now
      ∙ ap (λ (l : List X). l ++ f (get_or now i d) ∷ []) done
      ∙ ap (λ (x : X). map f (take i old) ++ f x ∷ []) same
      ∙ sym (map-append f (take i old) (get_or old i d ∷ []))
      ∙ ap (map f) (sym (take_more old i d in_old))

  pub left_more : drop (i + 1) (set now i (f (get_or now i d))) ≡ drop (i + 1) old
  left_more =
      drop-set-lt (i + 1) now i (f (get_or now i d)) (omega arith) ∙ sym (drop-drop 1 i now) ∙ ap (drop 1) left ∙ drop-drop 1 i old

  -- what held of each before the loop holds of the next one
  pub still : (P : X → Type 0) → All P old → P (get_or now i d)
  still P all = subst P (sym same) (All-get_or P old i d in_old all)
