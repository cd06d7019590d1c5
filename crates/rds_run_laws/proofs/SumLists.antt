-- Sums over lists.
use Rattle.std.proofs.Common.{◌≡◌, ℕ, zero, suc, ◌+◌, ◌≤◌, Bool, true, false, cond, Some, List, [], ◌∷◌, length, map, slice_get, refl, sym, ap, ◌∙◌, arith}
use Rattle.std.specs.Prelude.{flat_map, sum_by}
use Rattle.std.proofs.lemmas.List.Sums.{sum_by-append, sum_by-cons}
use Rattle.std.proofs.lemmas.Option.{same_Some}
use Rattle.rds_run_laws.proofs.At.{sum_up}

module _ {X : Type 0} where
  pub sum_same : (f g : X → ℕ) (xs : List X) → ((i : ℕ) (x : X) → slice_get xs i ≡ Some x → f x ≡ g x) → sum_by f xs ≡ sum_by g xs
  sum_same f g [] same = refl
  sum_same f g (x ∷ xs) same =
      let a = sum_by-cons f x xs in
      let b = sum_by-cons g x xs in
      let here = same 0 x refl in
      let rest = sum_same f g xs (λ i y at. same (suc i) y at) in
      omega (arith, a, b, here, rest)

  pub sum_plus : (f g : X → ℕ) (xs : List X) → sum_by (λ x. f x + g x) xs ≡ sum_by f xs + sum_by g xs
  sum_plus f g [] = refl
  sum_plus f g (x ∷ xs) =
      let a = sum_by-cons f x xs in
      let b = sum_by-cons g x xs in
      let c = sum_by-cons (λ y. f y + g y) x xs in
      let rest = sum_plus f g xs in
      omega (arith, a, b, c, rest)

  pub sum_none : (f : X → ℕ) (xs : List X) → ((i : ℕ) (x : X) → slice_get xs i ≡ Some x → f x ≡ 0) → sum_by f xs ≡ 0
  sum_none f [] each = refl
  sum_none f (x ∷ xs) each =
      let whole = sum_by-cons f x xs in
      let here = each 0 x refl in
      let rest = sum_none f xs (λ i y at. each (suc i) y at) in
      omega (arith, whole, here, rest)

  pub sum_ones : (f : X → ℕ) (xs : List X) → ((i : ℕ) (x : X) → slice_get xs i ≡ Some x → f x ≡ 1) → sum_by f xs ≡ length xs
  sum_ones f [] each = refl
  sum_ones f (x ∷ xs) each =
      let whole = sum_by-cons f x xs in
      let here = each 0 x refl in
      let rest = sum_ones f xs (λ i y at. each (suc i) y at) in
      omega (arith, whole, here, rest)

  -- one of the terms of a sum
  pub part_of : (f : X → ℕ) (xs : List X) (i : ℕ) (x : X) → slice_get xs i ≡ Some x → f x ≤ sum_by f xs
  part_of f [] i x at = absurd (cc)
  part_of f (y ∷ xs) zero x at = let whole = sum_by-cons f y xs in let same = ap f (same_Some y x at) in omega (arith, whole, same)
  part_of f (y ∷ xs) (suc i) x at = let whole = sum_by-cons f y xs in let rest = part_of f xs i x at in omega (arith, whole, rest)

  -- a value that counts at one place
  pub sum_once : (test : X → Bool) (v : ℕ) (xs : List X) → ((i j : ℕ) (x y : X) → slice_get xs i ≡ Some x → slice_get xs j ≡ Some y → test x ≡ true → test y ≡ true → i ≡ j) →
      sum_by (λ x. cond (test x) v 0) xs ≤ v
  sum_once test v [] one = omega arith
  sum_once test v (x ∷ xs) one = go (test x) refl (sum_once test v xs (λ i j y z at_y at_z first second. let same = one (suc i) (suc j) y z at_y at_z first second in omega (arith, same)))
    where
      go : (b : Bool) → test x ≡ b → sum_by (λ y. cond (test y) v 0) xs ≤ v → sum_by (λ y. cond (test y) v 0) (x ∷ xs) ≤ v
      go false is rest =
          let whole = sum_by-cons (λ y. cond (test y) v 0) x xs in
          let here = ap (λ (t : Bool). cond t v 0) is in
          omega (arith, whole, here, rest)
      go true is rest =
          let whole = sum_by-cons (λ y. cond (test y) v 0) x xs in
          let here = ap (λ (t : Bool). cond t v 0) is in
          let none = sum_none (λ y. cond (test y) v 0) xs (λ i y at. other i y at (test y) refl) in
          omega (arith, whole, here, none)
        where
          other : (i : ℕ) (y : X) → slice_get xs i ≡ Some y → (b : Bool) → test y ≡ b → cond (test y) v 0 ≡ 0
          other i y at false is_not = ap (λ (t : Bool). cond t v 0) is_not
          other i y at true is_too = let same = one 0 (suc i) x y refl at is is_too in absurd (omega (arith, same))

  -- a sum by the number of each place
  pub sum_by_place : (f : X → ℕ) (g : ℕ → ℕ) (from : ℕ) (xs : List X) → ((i : ℕ) (x : X) → slice_get xs i ≡ Some x → f x ≡ g (from + i)) →
      sum_by f xs ≡ sum_up g from (length xs)
  sum_by_place f g from [] each = refl
  sum_by_place f g from (x ∷ xs) each =
      let whole = sum_by-cons f x xs in
      let first = each 0 x refl in
      let same : g (from + 0) ≡ g from = ap g (omega arith) in
      let rest = sum_by_place f g (suc from) xs (λ i y at. each (suc i) y at ∙ ap g (omega arith)) in
      omega (arith, whole, first, same, rest)

  pub sum_mapped : {Y : Type 0} (f : Y → ℕ) (g : X → Y) (xs : List X) → sum_by f (map g xs) ≡ sum_by (λ x. f (g x)) xs
  sum_mapped f g [] = refl
  sum_mapped f g (x ∷ xs) =
      let a = sum_by-cons f (g x) (map g xs) in
      let b = sum_by-cons (λ y. f (g y)) x xs in
      let rest = sum_mapped f g xs in
      omega (arith, a, b, rest)

  pub sum_flat : {Y : Type 0} (f : Y → ℕ) (g : X → List Y) (xs : List X) → sum_by f (flat_map g xs) ≡ sum_by (λ x. sum_by f (g x)) xs
  sum_flat f g [] = refl
  sum_flat f g (x ∷ xs) =
      let a = sum_by-append f (g x) (flat_map g xs) in
      let b = sum_by-cons (λ y. sum_by f (g y)) x xs in
      let rest = sum_flat f g xs in
      omega (arith, a, b, rest)

  pub sum_swap : {Y : Type 0} (f : X → Y → ℕ) (xs : List X) (ys : List Y) →
      sum_by (λ x. sum_by (f x) ys) xs ≡ sum_by (λ y. sum_by (λ x. f x y) xs) ys
  sum_swap f [] ys = sym (sum_zero ys)
    where
      sum_zero : {Y : Type 0} (ys : List Y) → sum_by (λ y. 0) ys ≡ 0
      sum_zero [] = refl
      sum_zero (y ∷ ys) = let a = sum_by-cons (λ z. 0) y ys in let rest = sum_zero ys in omega (arith, a, rest)
  sum_swap {Y} f (x ∷ xs) ys =
      let a = sum_by-cons (λ z. sum_by (f z) ys) x xs in
      let rest = sum_swap f xs ys in
      let both = sums ys in
      omega (arith, a, rest, both)
    where
      sums : (list : List Y) → sum_by (λ y. sum_by (λ z. f z y) (x ∷ xs)) list ≡ sum_by (f x) list + sum_by (λ y. sum_by (λ z. f z y) xs) list
      sums [] = refl
      sums (y ∷ list) =
          let a = sum_by-cons (λ t. sum_by (λ z. f z t) (x ∷ xs)) y list in
          let b = sum_by-cons (λ z. f z y) x xs in
          let c = sum_by-cons (f x) y list in
          let d = sum_by-cons (λ t. sum_by (λ z. f z t) xs) y list in
          let rest = sums list in
          omega (arith, a, b, c, d, rest)
