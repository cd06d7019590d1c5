-- Sums over the elements that pass a test.
use Rattle.std.proofs.Common.{◌≡◌, inl, inr, ℕ, zero, suc, ◌+◌, ◌≤◌, ◌&&◌, not, Bool, true, false, cond, List, [], ◌∷◌, ◌++◌, filter, sum_by, refl, sym, ◌∙◌, ap, arith}
use Rattle.std.proofs.lemmas.Bool.{cases_Bool, cond-true, cond-false}
use Rattle.std.proofs.lemmas.List.Sums.{sum_by-append, sum_by-cons}
use Rattle.std.proofs.lemmas.List.Elements.{filter-append}
use Rattle.rds_model.specs.Alive.{up_to}

-- the sum over those that pass
abbrev pub total : {X : Type 0} → (X → ℕ) → (X → Bool) → List X → ℕ
total f p xs = sum_by f (filter p xs)

pub total-cons : {X : Type 0} (f : X → ℕ) (p : X → Bool) (x : X) (xs : List X) → total f p (x ∷ xs) ≡ cond (p x) (f x) 0 + total f p xs
total-cons f p x xs =
    elim (p x) as (λ b. sum_by f (cond b (x ∷ filter p xs) (filter p xs)) ≡ cond b (f x) 0 + total f p xs) [
      | true ↦ sum_by-cons f x (filter p xs)
      | false ↦ omega arith
    ]

pub total-append : {X : Type 0} (f : X → ℕ) (p : X → Bool) (xs ys : List X) → total f p (xs ++ ys) ≡ total f p xs + total f p ys
total-append f p xs ys = ap (sum_by f) (filter-append p xs ys) ∙ sum_by-append f (filter p xs) (filter p ys)

-- totals over the same elements with the same sizes
pub total_same_up_to : (f g : ℕ → ℕ) (p q : ℕ → Bool) (m : ℕ) → ((n : ℕ) → n ≤ m → (f n ≡ g n) × (p n ≡ q n)) →
    total f p (up_to m) ≡ total g q (up_to m)
total_same_up_to f g p q zero same = refl
total_same_up_to f g p q (suc m) same =
    let rest = total_same_up_to f g p q m (λ n within. same n (omega arith)) in
    let last = same (suc m) (omega arith) in
    total-append f p (up_to m) (suc m ∷ [])
    ∙ ap (λ t. t + total f p (suc m ∷ [])) rest
    ∙ ap (λ t. total g q (up_to m) + t)
    (total-cons f p (suc m) [] ∙ ap (λ b. cond b (f (suc m)) 0 + 0) last.1 ∙ ap (λ x. cond (q (suc m)) x 0 + 0) last.0 ∙ sym (total-cons g q (suc m) []))
    ∙ sym (total-append g q (up_to m) (suc m ∷ []))

-- a test cut in two by another
pub total_split : {X : Type 0} (f : X → ℕ) (p q : X → Bool) (xs : List X) →
    total f (λ x. p x && not (q x)) xs + total f (λ x. q x && p x) xs ≡ total f p xs
total_split f p q [] = refl
total_split f p q (x ∷ xs) =
    let rest = total_split f p q xs in
    let left = total-cons f (λ y. p y && not (q y)) x xs in
    let right = total-cons f (λ y. q y && p y) x xs in
    let whole = total-cons f p x xs in
    let here = halves (p x) (q x) (f x) in
    omega (arith, rest, left, right, whole, here)
  where
    halves : (a b : Bool) (n : ℕ) → cond (a && not b) n 0 + cond (b && a) n 0 ≡ cond a n 0
    halves true true n = omega arith
    halves true false n = omega arith
    halves false true n = refl
    halves false false n = refl

-- a sieve cuts a total in two
pub total_sieved : {X : Type 0} (f : X → ℕ) (p keep : X → Bool) (xs : List X) →
    total f p (filter keep xs) + total f p (filter (λ x. not (keep x)) xs) ≡ total f p xs
total_sieved f p keep [] = refl
total_sieved f p keep (x ∷ xs) =
    let rest = total_sieved f p keep xs in
    let whole = total-cons f p x xs in
    elim (cases_Bool (keep x)) [
      | inl kept ↦
          let kept_are = ap (total f p) (cond-true (keep x) (x ∷ filter keep xs) (filter keep xs) kept) in
          let left_are = ap (λ b. total f p (cond (not b) (x ∷ filter (λ y. not (keep y)) xs) (filter (λ y. not (keep y)) xs))) kept in
          let first = total-cons f p x (filter keep xs) in
          omega (arith, rest, whole, kept_are, left_are, first)
      | inr left ↦
          let kept_are = ap (total f p) (cond-false (keep x) (x ∷ filter keep xs) (filter keep xs) left) in
          let left_are = ap (λ b. total f p (cond (not b) (x ∷ filter (λ y. not (keep y)) xs) (filter (λ y. not (keep y)) xs))) left in
          let first = total-cons f p x (filter (λ y. not (keep y)) xs) in
          omega (arith, rest, whole, kept_are, left_are, first)
    ]

-- a total over those of which all pass, and of which none does
pub total_all : {X : Type 0} (f : X → ℕ) (p keep : X → Bool) (xs : List X) → ((x : X) → keep x ≡ true → p x ≡ true) →
    total f p (filter keep xs) ≡ sum_by f (filter keep xs)
total_all f p keep [] pass = refl
total_all f p keep (x ∷ xs) pass =
    elim (cases_Bool (keep x)) [
      | inl kept ↦
          let is = cond-true (keep x) (x ∷ filter keep xs) (filter keep xs) kept in
          ap (total f p) is ∙ total-cons f p x (filter keep xs) ∙ ap (λ b. cond b (f x) 0 + total f p (filter keep xs)) (pass x kept)
          ∙ ap (λ t. f x + t) (total_all f p keep xs pass) ∙ sym (sum_by-cons f x (filter keep xs)) ∙ sym (ap (sum_by f) is)
      | inr left ↦
          let is = cond-false (keep x) (x ∷ filter keep xs) (filter keep xs) left in
          ap (total f p) is ∙ total_all f p keep xs pass ∙ sym (ap (sum_by f) is)
    ]

pub total_none : {X : Type 0} (f : X → ℕ) (p keep : X → Bool) (xs : List X) → ((x : X) → keep x ≡ true → p x ≡ false) →
    total f p (filter keep xs) ≡ 0
total_none f p keep [] fail = refl
total_none f p keep (x ∷ xs) fail =
    elim (cases_Bool (keep x)) [
      | inl kept ↦
          ap (total f p) (cond-true (keep x) (x ∷ filter keep xs) (filter keep xs) kept) ∙ total-cons f p x (filter keep xs)
          ∙ ap (λ b. cond b (f x) 0 + total f p (filter keep xs)) (fail x kept) ∙ ap (λ t. 0 + t) (total_none f p keep xs fail)
      | inr left ↦ ap (total f p) (cond-false (keep x) (x ∷ filter keep xs) (filter keep xs) left) ∙ total_none f p keep xs fail
    ]
