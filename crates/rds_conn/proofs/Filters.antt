-- Filters of lists.
use Rattle.std.proofs.Common.{◌≡◌, ℕ, zero, suc, ◌≤◌, ◌&&◌, ◌||◌, not, Bool, true, false, cond, List, [], ◌∷◌, ◌++◌, filter, refl, sym, ◌∙◌, ap, arith}
use Rattle.std.proofs.lemmas.List.Elements.{filter-append}
use Rattle.rds_model.specs.Alive.{up_to}

-- two tests that agree keep the same
pub filter_same_up_to : (p q : ℕ → Bool) (m : ℕ) → ((n : ℕ) → n ≤ m → p n ≡ q n) → filter p (up_to m) ≡ filter q (up_to m)
filter_same_up_to p q zero same = refl
filter_same_up_to p q (suc m) same =
    let rest = filter_same_up_to p q m (λ n within. same n (omega arith)) in
    filter-append p (up_to m) (suc m ∷ [])
    ∙ ap (λ (xs : List ℕ). xs ++ filter p (suc m ∷ [])) rest
    ∙ ap (λ b. filter q (up_to m) ++ (cond b (suc m ∷ []) [])) (same (suc m) (omega arith))
    ∙ sym (filter-append q (up_to m) (suc m ∷ []))

-- a filter of a filter is one filter
pub filter-filter : {X : Type 0} (p q : X → Bool) (xs : List X) → filter p (filter q xs) ≡ filter (λ x. q x && p x) xs
filter-filter p q [] = refl
filter-filter p q (x ∷ xs) =
    elim (q x) as (λ b. filter p (cond b (x ∷ filter q xs) (filter q xs)) ≡ cond (b && p x) (x ∷ filter (λ y. q y && p y) xs) (filter (λ y. q y && p y) xs)) [
      | true ↦ ap (λ (ys : List _). cond (p x) (x ∷ ys) ys) (filter-filter p q xs)
      | false ↦ filter-filter p q xs
    ]

-- What remains of those that are left to do, where fewer are alive.
pub left_to_do : (alive alive' done keep : ℕ → Bool) (m : ℕ) → ((n : ℕ) → n ≤ m → alive' n ≡ alive n && keep n) →
    filter (λ n. alive' n && not (done n)) (up_to m) ≡ filter keep (filter (λ n. alive n && not (done n)) (up_to m))
left_to_do alive alive' done keep m same =
    filter_same_up_to (λ n. alive' n && not (done n)) (λ n. alive n && not (done n) && keep n) m
    (λ n within. ap (λ b. b && not (done n)) (same n within) ∙ swapped (alive n) (keep n) (not (done n)))
    ∙ sym (filter-filter keep (λ n. alive n && not (done n)) (up_to m))
  where
    swapped : (a b c : Bool) → (a && b) && c ≡ (a && c) && b
    swapped true true true = refl
    swapped true true false = refl
    swapped true false true = refl
    swapped true false false = refl
    swapped false b c = refl

-- what remains of those that are left to do, where some more are done
pub done_more : (alive done more : ℕ → Bool) (m : ℕ) →
    filter (λ n. alive n && not (more n || done n)) (up_to m) ≡ filter (λ n. not (more n)) (filter (λ n. alive n && not (done n)) (up_to m))
done_more alive done more m =
    filter_same_up_to (λ n. alive n && not (more n || done n)) (λ n. alive n && not (done n) && not (more n)) m
    (λ n within. apart (alive n) (more n) (done n))
    ∙ sym (filter-filter (λ n. not (more n)) (λ n. alive n && not (done n)) (up_to m))
  where
    apart : (a b c : Bool) → a && not (b || c) ≡ (a && not c) && not b
    apart true true true = refl
    apart true true false = refl
    apart true false true = refl
    apart true false false = refl
    apart false b c = refl

-- a test that all pass keeps all
pub filter_none_done : (alive done : ℕ → Bool) (m : ℕ) → ((n : ℕ) → done n ≡ false) →
    filter (λ n. alive n && not (done n)) (up_to m) ≡ filter alive (up_to m)
filter_none_done alive done m none =
    filter_same_up_to (λ n. alive n && not (done n)) alive m (λ n within. ap (λ b. alive n && not b) (none n) ∙ and-true (alive n))
  where
    and-true : (b : Bool) → b && true ≡ b
    and-true true = refl
    and-true false = refl

pub filter_true : (xs : List ℕ) → filter (λ n. true) xs ≡ xs
filter_true [] = refl
filter_true (x ∷ xs) = ap (λ (ys : List ℕ). x ∷ ys) (filter_true xs)

pub filter_same : {X : Type 0} (p q : X → Bool) → ((x : X) → q x ≡ p x) → (xs : List X) → filter q xs ≡ filter p xs
filter_same p q same [] = refl
filter_same p q same (x ∷ xs) =
    ap (λ b. cond b (x ∷ filter q xs) (filter q xs)) (same x) ∙ ap (λ (ys : List _). cond (p x) (x ∷ ys) ys) (filter_same p q same xs)

pub not_not : (b : Bool) → not (not b) ≡ b
not_not true = refl
not_not false = refl
