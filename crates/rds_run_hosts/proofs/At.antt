-- What stands at a place of a list.
use Rattle.std.proofs.Common.{◌≡◌, ◌≢◌, ◌<◌, ◌⊎◌, All, inl, inr, ⊎_elim, ℕ, zero, suc, List, [], ◌∷◌, ◌++◌, Some, length, map, set, get_or, slice_get, refl, sym, ap, subst, ◌∙◌, arith}
use Rattle.std.proofs.lemmas.List.{length_push}
use Rattle.std.proofs.lemmas.Option.{get_or_from_slice_get, same_Some, slice_get_within, slice_get-get_or}

-- what stands at a place of a mapped list is made of what stands there
pub at_map : {A B : Type 0} (f : A → B) (xs : List A) (i : ℕ) (b : B) → slice_get (map f xs) i ≡ Some b → (a : A) × (slice_get xs i ≡ Some a) × (b ≡ f a)
at_map f [] i b at = absurd (cc)
at_map f (x ∷ xs) zero b at = (x, refl, sym (same_Some (f x) b at))
at_map f (x ∷ xs) (suc i) b at = at_map f xs i b at

-- and there it stands
pub map_at : {A B : Type 0} (f : A → B) (xs : List A) (i : ℕ) (a : A) → slice_get xs i ≡ Some a → slice_get (map f xs) i ≡ Some (f a)
map_at f [] i a at = absurd (cc)
map_at f (x ∷ xs) zero a at = ap (λ y. Some (f y)) (same_Some x a at)
map_at f (x ∷ xs) (suc i) a at = map_at f xs i a at

pub length_map : {A B : Type 0} (f : A → B) (xs : List A) → length (map f xs) ≡ length xs
length_map f [] = refl
length_map f (x ∷ xs) = ap suc (length_map f xs)

-- what stands at a place of a list that is as long stands at that of the other
pub stood_at : {A B : Type 0} (xs : List A) (ys : List B) (i : ℕ) (y : B) → length ys ≡ length xs → slice_get ys i ≡ Some y → (x : A) × (slice_get xs i ≡ Some x)
stood_at [] [] i y same at = absurd (cc)
stood_at [] (z ∷ ys) i y same at = absurd (omega (arith, same))
stood_at (x ∷ xs) [] i y same at = absurd (omega (arith, same))
stood_at (x ∷ xs) (z ∷ ys) zero y same at = (x, refl)
stood_at (x ∷ xs) (z ∷ ys) (suc i) y same at = stood_at xs ys i y (omega (arith, same)) at

-- what is read by an index stands there
pub stands_at : {A : Type 0} (xs : List A) (i : ℕ) (x : A) → i < length xs → x ≡ get_or xs i x → slice_get xs i ≡ Some x
stands_at xs i x within is = slice_get-get_or xs i x within ∙ ap Some (sym is)

-- something stands at each place within
pub some_at : {A : Type 0} (xs : List A) (i : ℕ) → i < length xs → (x : A) × (slice_get xs i ≡ Some x)
some_at [] i within = absurd (omega (arith, within))
some_at (x ∷ xs) zero within = (x, refl)
some_at (x ∷ xs) (suc i) within = some_at xs i (omega (arith, within))

-- what stands at a place of a list with one more element stood there before, or is that one
pub at_snoc : {A : Type 0} (xs : List A) (x : A) (i : ℕ) (y : A) → slice_get (xs ++ x ∷ []) i ≡ Some y → (slice_get xs i ≡ Some y) ⊎ ((i ≡ length xs) × (y ≡ x))
at_snoc [] x zero y at = inr (refl, sym (same_Some x y at))
at_snoc [] x (suc i) y at = absurd (cc)
at_snoc (z ∷ xs) x zero y at = inl at
at_snoc (z ∷ xs) x (suc i) y at = ⊎_elim (λ stood. inl stood) (λ new. inr (ap suc new.0, new.1)) (at_snoc xs x i y at)

-- what stood in a list stands there still once one more is at its end
pub at_push : {A : Type 0} (xs : List A) (x : A) (i : ℕ) (y : A) → slice_get xs i ≡ Some y → slice_get (xs ++ x ∷ []) i ≡ Some y
at_push [] x i y at = absurd (cc)
at_push (z ∷ xs) x zero y at = at
at_push (z ∷ xs) x (suc i) y at = at_push xs x i y at

-- and there that one stands
pub at_end : {A : Type 0} (xs : List A) (x : A) → slice_get (xs ++ x ∷ []) (length xs) ≡ Some x
at_end [] x = refl
at_end (z ∷ xs) x = at_end xs x

-- what stands at a place of a list of which one was set is what was set, or stood there before
pub at_set_any : {A : Type 0} (xs : List A) (k : ℕ) (x : A) (i : ℕ) (y : A) → slice_get (set xs k x) i ≡ Some y →
    ((i ≡ k) × (y ≡ x)) ⊎ ((i ≢ k) × (slice_get xs i ≡ Some y))
at_set_any [] k x i y at = absurd (cc)
at_set_any (z ∷ xs) zero x zero y at = inl (refl, sym (same_Some x y at))
at_set_any (z ∷ xs) zero x (suc i) y at = inr (λ e. omega (arith, e), at)
at_set_any (z ∷ xs) (suc k) x zero y at = inr (λ e. omega (arith, e), at)
at_set_any (z ∷ xs) (suc k) x (suc i) y at = ⊎_elim (λ here. inl (ap suc here.0, here.1)) (λ there. inr (λ e. there.0 (omega (arith, e)), there.1)) (at_set_any xs k x i y at)

-- two lists as long as each other, each with one more element: what stands at a place of both stood there before, or is those two
pub at_both_snoc : {A B : Type 0} (xs : List A) (ys : List B) (x : A) (y : B) (i : ℕ) (a : A) (b : B) → length ys ≡ length xs →
    slice_get (xs ++ x ∷ []) i ≡ Some a → slice_get (ys ++ y ∷ []) i ≡ Some b →
    ((slice_get xs i ≡ Some a) × (slice_get ys i ≡ Some b)) ⊎ ((i ≡ length xs) × (a ≡ x) × (b ≡ y))
at_both_snoc [] [] x y zero a b same at_a at_b = inr (refl, sym (same_Some x a at_a), sym (same_Some y b at_b))
at_both_snoc [] [] x y (suc i) a b same at_a at_b = absurd (cc)
at_both_snoc [] (v ∷ ys) x y i a b same at_a at_b = absurd (omega (arith, same))
at_both_snoc (u ∷ xs) [] x y i a b same at_a at_b = absurd (omega (arith, same))
at_both_snoc (u ∷ xs) (v ∷ ys) x y zero a b same at_a at_b = inl (at_a, at_b)
at_both_snoc (u ∷ xs) (v ∷ ys) x y (suc i) a b same at_a at_b =
    ⊎_elim (λ old. inl old) (λ new. inr (ap suc new.0, new.1, new.2)) (at_both_snoc xs ys x y i a b (omega (arith, same)) at_a at_b)

-- two lists of which the same place was set: what stands at a place of both is what was set, or stood there before
pub at_both_set : {A B : Type 0} (xs : List A) (ys : List B) (k : ℕ) (x : A) (y : B) (i : ℕ) (a : A) (b : B) →
    slice_get (set xs k x) i ≡ Some a → slice_get (set ys k y) i ≡ Some b →
    ((i ≡ k) × (a ≡ x) × (b ≡ y)) ⊎ ((slice_get xs i ≡ Some a) × (slice_get ys i ≡ Some b))
at_both_set [] ys k x y i a b at_a at_b = absurd (cc)
at_both_set (u ∷ xs) [] k x y i a b at_a at_b = absurd (cc)
at_both_set (u ∷ xs) (v ∷ ys) zero x y zero a b at_a at_b = inl (refl, sym (same_Some x a at_a), sym (same_Some y b at_b))
at_both_set (u ∷ xs) (v ∷ ys) zero x y (suc i) a b at_a at_b = inr (at_a, at_b)
at_both_set (u ∷ xs) (v ∷ ys) (suc k) x y zero a b at_a at_b = inr (at_a, at_b)
at_both_set (u ∷ xs) (v ∷ ys) (suc k) x y (suc i) a b at_a at_b =
    ⊎_elim (λ here. inl (ap suc here.0, here.1, here.2)) (λ there. inr there) (at_both_set xs ys k x y i a b at_a at_b)

-- a list of one thing is that which stands at its end
pub the_one : {A : Type 0} (xs front : List A) (x : A) → xs ≡ front ++ x ∷ [] → length xs ≡ 1 → xs ≡ x ∷ []
the_one xs [] x is one = is
the_one xs (y ∷ front) x is one = absurd (let n = ap length is in let m = length_push front x in omega (arith, n, m, one))

-- what holds of all holds of what stands at a place
pub all_at : {A : Type 0} (P : A → Type 0) (xs : List A) (i : ℕ) (x : A) → All P xs → slice_get xs i ≡ Some x → P x
all_at P xs i x all at = subst P (get_or_from_slice_get xs i x x at) (all i x (slice_get_within xs i x at))

-- what stands behind the place that was set stood there before
pub behind_set : {A : Type 0} (xs : List A) (k : ℕ) (x : A) (i : ℕ) → k < i → slice_get (set xs k x) i ≡ slice_get xs i
behind_set [] k x i lt = refl
behind_set (z ∷ xs) zero x zero lt = absurd (omega (arith, lt))
behind_set (z ∷ xs) zero x (suc i) lt = refl
behind_set (z ∷ xs) (suc k) x zero lt = absurd (omega (arith, lt))
behind_set (z ∷ xs) (suc k) x (suc i) lt = behind_set xs k x i (omega (arith, lt))

-- one more is at the end of what is the same
pub joined : {A : Type 0} {new middle old : List A} (x : A) → new ≡ middle ++ x ∷ [] → middle ≡ old → new ≡ old ++ x ∷ []
joined {A} x more same = more ∙ ap (λ (l : List A). l ++ x ∷ []) same
