-- What stands at a place of a list.
use Rattle.std.proofs.Common.{◌≡◌, ◌⊎◌, ℕ, zero, suc, ◌<◌, List, [], ◌∷◌, ◌++◌, All, Some, length, map, get_or, slice_get, refl, inl, inr, sym, ap, subst, ⊎_elim, ◌∙◌, arith}
use Rattle.std.proofs.lemmas.Option.{same_Some, slice_get_within, slice_get-get_or}

-- after one push that is what stood there, or what was pushed
pub pushed_at : {X : Type 0} (xs : List X) (x y : X) (place : ℕ) → slice_get (xs ++ x ∷ []) place ≡ Some y → (slice_get xs place ≡ Some y) ⊎ ((place ≡ length xs) × (x ≡ y))
pushed_at [] x y zero is = inr (refl, same_Some x y is)
pushed_at [] x y (suc place) is = absurd (cc)
pushed_at (z ∷ xs) x y zero is = inl is
pushed_at (z ∷ xs) x y (suc place) is = ⊎_elim (λ there. inl there) (λ (last : (place ≡ length xs) × (x ≡ y)). inr (ap suc last.0, last.1)) (pushed_at xs x y place is)

-- in a mapped list it is made of what stands there
pub mapped_at : {X Y : Type 0} (f : X → Y) (xs : List X) (y : Y) (place : ℕ) → slice_get (map f xs) place ≡ Some y → (x : X) × (slice_get xs place ≡ Some x) × (f x ≡ y)
mapped_at f [] y place is = absurd (let small = slice_get_within [] place y is in omega arith)
mapped_at f (x ∷ xs) y zero is = (x, refl, same_Some (f x) y is)
mapped_at f (x ∷ xs) y (suc place) is = mapped_at f xs y place is

-- what holds of all holds of it
pub all_at : {X : Type 0} (P : X → Type 0) (xs : List X) (x : X) (place : ℕ) → All P xs → slice_get xs place ≡ Some x → P x
all_at P xs x place all is =
    let small = slice_get_within xs place x is in
    subst P (same_Some (get_or xs place x) x (sym (slice_get-get_or xs place x small) ∙ is)) (all place x small)

-- something stands at each place within
pub there_is : {X : Type 0} (xs : List X) (n : ℕ) → n < length xs → (x : X) × (slice_get xs n ≡ Some x)
there_is [] n small = absurd (omega arith)
there_is (x ∷ xs) zero small = (x, refl)
there_is (x ∷ xs) (suc n) small = there_is xs n (omega arith)
