-- The first port of a range that passes a test.
use Rattle.std.proofs.Common.{◌≡◌, ℕ, suc, ◌+◌, ◌-◌, ◌<◌, Bool, true, false, Option, Some, None, List, ◌++◌, sym, ◌∙◌, ap, arith}
use Rattle.std.specs.Prelude.{find}
use Rattle.std.specs.List.{range_with_len}
use Rattle.std.specs.Option.{option_or}
use Rattle.std.proofs.lemmas.Bool.{cond-true, cond-false}
use Rattle.std.proofs.lemmas.List.Folds.{find-append}

find_next : (p : ℕ → Bool) (i e : ℕ) → i < e →
    find p (range_with_len i (e - i)) ≡ find p (range_with_len i (suc (e - (i + 1))))
find_next p i e below = let n : e - i ≡ suc (e - (i + 1)) = omega arith in ap (λ m. find p (range_with_len i m)) n

pub found : (p : ℕ → Bool) (i e : ℕ) → i < e → p i ≡ true → find p (range_with_len i (e - i)) ≡ Some i
found p i e below on = find_next p i e below ∙ cond-true (p i) (Some i) (find p (range_with_len (i + 1) (e - (i + 1)))) on

pub passed : (p : ℕ → Bool) (i e : ℕ) → i < e → p i ≡ false →
    find p (range_with_len (i + 1) (e - (i + 1))) ≡ find p (range_with_len i (e - i))
passed p i e below off = sym (find_next p i e below ∙ cond-false (p i) (Some i) (find p (range_with_len (i + 1) (e - (i + 1)))) off)

-- the first of one range, or else of another
pub found_first : (p : ℕ → Bool) (xs ys : List ℕ) (x : ℕ) → Some x ≡ find p xs → Some x ≡ find p (xs ++ ys)
found_first p xs ys x is = sym (find-append p xs ys ∙ ap (λ o. option_or o (find p ys)) (sym is))

pub found_second : (p : ℕ → Bool) (xs ys : List ℕ) (r : Option ℕ) → None ≡ find p xs → r ≡ find p ys → r ≡ find p (xs ++ ys)
found_second p xs ys r none is = is ∙ sym (find-append p xs ys ∙ ap (λ o. option_or o (find p ys)) (sym none))
