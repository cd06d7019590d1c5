-- Numbers that rise from one bound to another.
use Rattle.std.proofs.Common.{◌≡◌, ℕ, zero, suc, ◌<◌, ◌≤◌, ◌&&◌, ◌==◌, not, Bool, true, cond, List, [], ◌∷◌, ◌++◌, length, filter, refl, sym, ◌∙◌, ap, arith}
use Rattle.std.proofs.lemmas.Bool.{ne_eqb, eq-eqb, cond_both}
use Rattle.std.specs.List.{list_all}
use Rattle.rds_model.specs.Alive.{up_to}

-- each number is above the one before it, the first above low, and none above high
abbrev pub Rises : ℕ → List ℕ → ℕ → Type 0
Rises low [] high = low ≤ high
Rises low (x ∷ xs) high = (low < x) × Rises x xs high

pub rises_lower : (low lower : ℕ) (xs : List ℕ) (high : ℕ) → lower ≤ low → Rises low xs high → Rises lower xs high
rises_lower low lower [] high less rises = omega (arith, rises)
rises_lower low lower (x ∷ xs) high less rises = (omega (arith, rises.0), rises.1)

pub rises_push : (low : ℕ) (xs : List ℕ) (high n : ℕ) → Rises low xs high → high < n → Rises low (xs ++ n ∷ []) n
rises_push low [] high n rises above = (omega (arith, rises), omega arith)
rises_push low (x ∷ xs) high n rises above = (rises.0, rises_push x xs high n rises.1 above)

pub rises_filter : (p : ℕ → Bool) (low : ℕ) (xs : List ℕ) (high : ℕ) → Rises low xs high → Rises low (filter p xs) high
rises_filter p low [] high rises = rises
rises_filter p low (x ∷ xs) high rises =
    cond_both (p x) (x ∷ filter p xs) (filter p xs) (λ ys. Rises low ys high)
    (λ _. (rises.0, rises_filter p x xs high rises.1))
    (λ _. rises_lower x low (filter p xs) high (omega (arith, rises.0)) (rises_filter p x xs high rises.1))

pub rises_up_to : (m : ℕ) → Rises 0 (up_to m) m
rises_up_to zero = omega arith
rises_up_to (suc m) = rises_push 0 (up_to m) m (suc m) (rises_up_to m) (omega arith)

pub rises_bounds : (low : ℕ) (xs : List ℕ) (high : ℕ) → Rises low xs high → low ≤ high
rises_bounds low [] high rises = rises
rises_bounds low (x ∷ xs) high rises = omega (arith, rises.0, rises_bounds x xs high rises.1)

-- leaving out a number below all others leaves them all
pub without_lower : (n low : ℕ) (xs : List ℕ) (high : ℕ) → n ≤ low → Rises low xs high → filter (λ m. not (n == m)) xs ≡ xs
without_lower n low [] high below rises = refl
without_lower n low (x ∷ xs) high below rises =
    ap (λ b. cond (not b) (x ∷ filter (λ m. not (n == m)) xs) (filter (λ m. not (n == m)) xs)) (ne_eqb n x (λ e. omega (arith, e, rises.0)))
    ∙ ap (λ (ys : List ℕ). x ∷ ys) (without_lower n x xs high (omega (arith, rises.0)) rises.1)

-- all of rising numbers are the first exactly where there is no other
pub all_first : (n : ℕ) (xs : List ℕ) (high : ℕ) → Rises n xs high → list_all (λ m. m == n) (n ∷ xs) ≡ (length xs == 0)
all_first n [] high rises = ap (λ b. b && true) (eq-eqb n n refl)
all_first n (x ∷ xs) high rises =
    ap (λ b. b && (x == n && list_all (λ m. m == n) xs)) (eq-eqb n n refl)
    ∙ ap (λ b. b && list_all (λ m. m == n) xs) (ne_eqb x n (λ e. omega (arith, e, rises.0)))
    ∙ sym (ne_eqb (suc (length xs)) 0 (λ e. omega (arith, e)))
