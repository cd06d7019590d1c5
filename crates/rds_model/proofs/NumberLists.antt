-- Lists of numbers that rise, and what a filter keeps of one.
use Rattle.std.proofs.Common.{◌≡◌, inl, inr, ℕ, zero, suc, ◌+◌, ◌<◌, Bool, true, List, [], ◌∷◌, ◌++◌, length, sym, ◌∙◌, ap, subst, arith, length-append}
use Rattle.std.specs.List.{Contains, All, filter}
use Rattle.std.specs.List.Sorted.{IsStrictlyIncreasing}
use Rattle.std.proofs.lemmas.Bool.{cases_Bool, cases_lt, cond-true, cond-false}
use Rattle.std.proofs.lemmas.List.{get_or_append_left, get_or_push}
use Rattle.rds_model.specs.Past.{passes}

-- a greater number at the end of a rising list
pub rising_more : (xs : List ℕ) (x : ℕ) → IsStrictlyIncreasing xs → All (λ y. y < x) xs → IsStrictlyIncreasing (xs ++ x ∷ [])
rising_more xs x rising below s within =
    elim (cases_lt (s + 1) (length xs)) [
      | inl inside ↦
          let here = get_or_append_left xs (x ∷ []) 0 s (omega arith) in
          let next = get_or_append_left xs (x ∷ []) 0 (s + 1) inside in
          omega (arith, rising s inside, here, next)
      | inr past ↦
          let long = length-append xs (x ∷ []) in
          let last : length xs ≡ s + 1 = omega (arith, long, within, past) in
          let here = get_or_append_left xs (x ∷ []) 0 s (omega arith) in
          let next = get_or_push xs x 0 (s + 1) last in
          omega (arith, here, next, below s 0 (omega arith))
    ]

pub in_nothing : (n : ℕ) → Contains {X = ℕ} [] n → ⊥
in_nothing n (s, within, is) = omega arith

-- a filter keeps what passes
pub in_filter : (p : ℕ → Bool) (xs : List ℕ) (n : ℕ) → p n ≡ true → Contains xs n → Contains (filter p xs) n
in_filter p [] n passes inside = absurd (in_nothing n inside)
in_filter p (x ∷ xs) n passes (zero, within, is) =
    let kept = cond-true (p x) (x ∷ filter p xs) (filter p xs) (ap p is ∙ passes) in
    subst (λ (l : List ℕ). Contains l n) (sym kept) (0, omega arith, is)
in_filter p (x ∷ xs) n passes (suc s, within, is) =
    let (i, within_i, is_i) = in_filter p xs n passes (s, omega arith, is) in
    elim (cases_Bool (p x)) [
      | inl keep ↦
          subst (λ (l : List ℕ). Contains l n) (sym (cond-true (p x) (x ∷ filter p xs) (filter p xs) keep)) (suc i, omega arith, is_i)
      | inr leave ↦ subst (λ (l : List ℕ). Contains l n) (sym (cond-false (p x) (x ∷ filter p xs) (filter p xs) leave)) (i, within_i, is_i)
    ]
