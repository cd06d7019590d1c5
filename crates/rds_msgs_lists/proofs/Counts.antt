-- How often a number stands in a list.
use Rattle.std.proofs.Common.{◌≡◌, ◌≤◌, ◌+◌, inl, inr, ℕ, true, List, [], ◌∷◌, ◌++◌, arith, refl, sym, ap, ◌∙◌, filter, Bool}
use Rattle.std.proofs.lemmas.Bool.{cases_eq, eq-eqb, ne_eqb, cases_Bool}
use Rattle.rds_msgs_lists.specs.Lists.{times}

-- where a number stands in none, it is not the first, and not in the rest
pub absent : (k x : ℕ) (xs : List ℕ) → times k (x ∷ xs) ≡ 0 → (x ≡ k → ⊥) × (times k xs ≡ 0)
absent k x xs h = ((λ e. let t = eq-eqb x k e in grind arith), omega arith)

-- a number at the front
pub times_first : (k : ℕ) (xs : List ℕ) → times k (k ∷ xs) ≡ 1 + times k xs
times_first k xs = let t = eq-eqb k k refl in grind arith

pub times_other : (k x : ℕ) (xs : List ℕ) → (x ≡ k → ⊥) → times k (x ∷ xs) ≡ times k xs
times_other k x xs h = let t = ne_eqb x k h in grind arith

pub times-append : (k : ℕ) (xs ys : List ℕ) → times k (xs ++ ys) ≡ times k xs + times k ys
times-append k [] ys = omega arith
times-append k (x ∷ xs) ys = omega (arith, times-append k xs ys)

-- a number that stands in a list splits it
pub split_at : (k : ℕ) (xs : List ℕ) → 1 ≤ times k xs → (ys : List ℕ) × (zs : List ℕ) × (xs ≡ ys ++ k ∷ zs)
split_at k [] h = absurd (omega arith)
split_at k (x ∷ xs) h =
    elim (cases_eq x k) [
      | inl e ↦ ([], xs, ap (λ (y : ℕ). y ∷ xs) e)
      | inr ne ↦
          let n : times k (x ∷ xs) ≡ times k xs = times_other k x xs ne in
          let s = split_at k xs (omega arith) in
          (x ∷ s.0, s.1, ap (λ (ys : List ℕ). x ∷ ys) s.2)
    ]

-- a filter keeps no more of a number
pub times-filter-le : (p : ℕ → Bool) (k : ℕ) (xs : List ℕ) → times k (filter p xs) ≤ times k xs
times-filter-le p k [] = omega arith
times-filter-le p k (x ∷ xs) = let h = times-filter-le p k xs in grind arith

-- it keeps only what passes
pub filtered_passes : (p : ℕ → Bool) (k : ℕ) (xs : List ℕ) → 1 ≤ times k (filter p xs) → p k ≡ true
filtered_passes p k [] h = absurd (omega arith)
filtered_passes p k (x ∷ xs) h =
    elim (cases_eq x k) [
      | inl e ↦ elim (cases_Bool (p x)) [
        | inl yes' ↦ ap p (sym e) ∙ yes'
        | inr no' ↦
            let t : filter p (x ∷ xs) ≡ filter p xs = rw no' refl in
            filtered_passes p k xs (omega (arith, ap (times k) t))
      ]
      | inr ne ↦
          let o = times_other k x (filter p xs) ne in
          let i : 1 ≤ times k (filter p xs) = grind arith in
          filtered_passes p k xs i
    ]

-- two tests that agree on a list keep the same
pub filter_same : (p q : ℕ → Bool) (xs : List ℕ) → ((k : ℕ) → 1 ≤ times k xs → p k ≡ q k) → filter p xs ≡ filter q xs
filter_same p q [] h = refl
filter_same p q (x ∷ xs) h =
    let first : p x ≡ q x = h x (let t = times_first x xs in omega arith) in
    let rest : filter p xs ≡ filter q xs = filter_same p q xs (λ k i. h k (omega arith)) in
    grind arith

-- what stands in either part stands in the whole, and in one of them what stands in the whole
pub times-middle : (k x : ℕ) (ys zs : List ℕ) → times k (ys ++ x ∷ zs) ≡ times k (ys ++ zs) + times k (x ∷ [])
times-middle k x ys zs = omega (arith, times-append k ys (x ∷ zs), times-append k ys zs)
