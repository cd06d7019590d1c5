-- Lists by index: what a path keeps as one of it is taken out, or one is put at its end.
use Rattle.std.proofs.Common.{◌≡◌, ◌≤◌, ◌⊎◌, inl, inr, ℕ, Option, Some, None, List, [], ◌∷◌, ◌++◌, length, arith, refl, sym, ap, ◌∙◌}
use Rattle.std.proofs.lemmas.Option.{same_Some, none-some}
use Rattle.rds_msgs_lists.specs.Lists.{times, walk, Path, Chain}
use Rattle.rds_msgs_lists.proofs.Counts.{absent, times_first}

-- What stands behind and before, but for what stood at x.
pub record Keeping (n p n' p' : Option ℕ → Option ℕ) (x : ℕ) : Type 0 where
  pub next_same : (o : Option ℕ) → (n o ≡ Some x → ⊥) → n' o ≡ n o
  pub previous_same : (o : Option ℕ) → (p o ≡ Some x → ⊥) → p' o ≡ p o

-- The neighbours of x are one another's.
pub record Without (n p n' p' : Option ℕ → Option ℕ) (x : ℕ) : Type 0 where
  pub keeping : Keeping n p n' p' x
  pub next_joined : n' (p (Some x)) ≡ n (Some x)
  pub previous_joined : p' (n (Some x)) ≡ p (Some x)

-- x stands behind the last.
pub record With (n p n' p' : Option ℕ → Option ℕ) (x : ℕ) : Type 0 where
  pub next_same : (o : Option ℕ) → (o ≡ p None → ⊥) → (o ≡ Some x → ⊥) → n' o ≡ n o
  pub previous_same : (o : Option ℕ) → (o ≡ None → ⊥) → (o ≡ Some x → ⊥) → p' o ≡ p o
  pub next_last : n' (p None) ≡ Some x
  pub next_new : n' (Some x) ≡ None
  pub previous_new : p' (Some x) ≡ p None
  pub previous_end : p' None ≡ Some x

-- the first of a list
abbrev pub head : List ℕ → Option ℕ
head [] = None
head (x ∷ xs) = Some x

pub other : (x y : ℕ) (o : Option ℕ) → (y ≡ x → ⊥) → o ≡ Some y → o ≡ Some x → ⊥
other x y o ne a b = ne (same_Some y x (sym a ∙ b))

pub never : (x : ℕ) (o : Option ℕ) → o ≡ None → o ≡ Some x → ⊥
never x o a b = none-some x (sym a ∙ b)

-- a walk gives what a path says
pub walk_path : (n p : Option ℕ → Option ℕ) (a : Option ℕ) (xs : List ℕ) (b : Option ℕ) → Path n p a xs b → walk n (length xs) (n a) ≡ xs
walk_path n p a [] b h = refl
walk_path n p a (x ∷ xs) b h = rw h.0 (ap (λ (ys : List ℕ). x ∷ ys) (walk_path n p (Some x) xs b h.2))

pub walk_chain : (n : Option ℕ → Option ℕ) (o : Option ℕ) (xs : List ℕ) → Chain n o xs → walk n (length xs) o ≡ xs
walk_chain n o [] h = refl
walk_chain n o (x ∷ xs) h = rw h.0 (ap (λ (ys : List ℕ). x ∷ ys) (walk_chain n (n (Some x)) xs h.1))

module _ (n p n' p' : Option ℕ → Option ℕ) where
  -- a path over functions that agree on it
  pub path_on : (a : Option ℕ) (xs : List ℕ) (b : Option ℕ) → n' a ≡ n a → p' b ≡ p b
      → ((k : ℕ) → 1 ≤ times k xs → n' (Some k) ≡ n (Some k)) → ((k : ℕ) → 1 ≤ times k xs → p' (Some k) ≡ p (Some k))
      → Path n p a xs b → Path n' p' a xs b
  path_on a [] b en ep hn hp h = (en ∙ h.0, ep ∙ h.1)
  path_on a (x ∷ xs) b en ep hn hp h =
      let i : 1 ≤ times x (x ∷ xs) = omega (arith, times_first x xs) in
      (en ∙ h.0, hp x i ∙ h.1, path_on (Some x) xs b (hn x i) ep (λ k j. hn k (omega arith)) (λ k j. hp k (omega arith)) h.2)

  -- a path that x is not on
  pub path_kept : (x : ℕ) → Keeping n p n' p' x → (a : Option ℕ) (xs : List ℕ) (b : Option ℕ) → (a ≡ Some x → ⊥) → (b ≡ Some x → ⊥)
      → times x xs ≡ 0 → Path n p a xs b → Path n' p' a xs b
  path_kept x w a [] b na nb t h =
      (w.next_same a (λ e. nb (sym h.0 ∙ e)) ∙ h.0, w.previous_same b (λ e. na (sym h.1 ∙ e)) ∙ h.1)
  path_kept x w a (y ∷ ys) b na nb t h =
      let s = absent x y ys t in (
        w.next_same a (other x y (n a) s.0 h.0) ∙ h.0,
        w.previous_same (Some y) (λ e. na (sym h.1 ∙ e)) ∙ h.1,
        path_kept x w (Some y) ys b (other x y (Some y) s.0 refl) nb s.1 h.2,
      )

  -- a path without x
  pub path_without : (x : ℕ) → Without n p n' p' x → (a : Option ℕ) (ys zs : List ℕ) (b : Option ℕ) → (a ≡ Some x → ⊥) → (b ≡ Some x → ⊥)
      → times x ys ≡ 0 → times x zs ≡ 0 → Path n p a (ys ++ x ∷ zs) b → Path n' p' a (ys ++ zs) b
  path_without x w a [] [] b na nb ty tz h =
      let e : n' (p (Some x)) ≡ n (Some x) = w.next_joined in
      let f : p' (n (Some x)) ≡ p (Some x) = w.previous_joined in
      (cc, cc)
  path_without x w a [] (z ∷ zs) b na nb ty tz h =
      let s = absent x z zs tz in
      let e : n' (p (Some x)) ≡ n (Some x) = w.next_joined in
      let f : p' (n (Some x)) ≡ p (Some x) = w.previous_joined in
      (cc, cc, path_kept x w.keeping (Some z) zs b (other x z (Some z) s.0 refl) nb s.1 h.2.2)
  path_without x w a (y ∷ ys) zs b na nb ty tz h =
      let s = absent x y ys ty in (
        w.keeping.next_same a (other x y (n a) s.0 h.0) ∙ h.0,
        w.keeping.previous_same (Some y) (λ e. na (sym h.1 ∙ e)) ∙ h.1,
        path_without x w (Some y) ys zs b (other x y (Some y) s.0 refl) nb s.1 tz h.2,
      )

  -- a path with x at its end
  pub path_with : (x : ℕ) → With n p n' p' x → n (p None) ≡ None → (a : Option ℕ) (xs : List ℕ) → (a ≡ Some x → ⊥)
      → times x xs ≡ 0 → Path n p a xs None → Path n' p' a (xs ++ x ∷ []) None
  path_with x w last a [] na t h = (ap n' (sym h.1) ∙ w.next_last, w.previous_new ∙ h.1, (w.next_new, w.previous_end))
  path_with x w last a (y ∷ ys) na t h =
      let s = absent x y ys t in (
        w.next_same a (λ e. never y (n a) (ap n e ∙ last) h.0) na ∙ h.0,
        w.previous_same (Some y) (λ e. none-some y (sym e)) (other x y (Some y) s.0 refl) ∙ h.1,
        path_with x w last (Some y) ys (other x y (Some y) s.0 refl) s.1 h.2,
      )

-- a path is cut where one of it stands
pub path_split : (n p : Option ℕ → Option ℕ) (a : Option ℕ) (ys : List ℕ) (x : ℕ) (zs : List ℕ) (b : Option ℕ)
    → Path n p a (ys ++ x ∷ zs) b → Path n p a ys (Some x) × Path n p (Some x) zs b
path_split n p a [] x zs b h = ((h.0, h.1), h.2)
path_split n p a (y ∷ ys) x zs b h = let s = path_split n p (Some y) ys x zs b h.2 in ((h.0, h.1, s.0), s.1)

-- what stands behind the start is the first, or the end
pub path_head : (n p : Option ℕ → Option ℕ) (a : Option ℕ) (xs : List ℕ) → Path n p a xs None → n a ≡ head xs
path_head n p a [] h = h.0
path_head n p a (x ∷ xs) h = h.0

-- nothing stands behind what stands before the end
pub path_end : (n p : Option ℕ → Option ℕ) (a : Option ℕ) (xs : List ℕ) (b : Option ℕ) → Path n p a xs b → n (p b) ≡ b
path_end n p a [] b h = ap n h.1 ∙ h.0
path_end n p a (x ∷ xs) b h = path_end n p (Some x) xs b h.2

-- what stands behind the start has the start before it
pub path_start : (n p : Option ℕ → Option ℕ) (a : Option ℕ) (xs : List ℕ) (b : Option ℕ) → Path n p a xs b → p (n a) ≡ a
path_start n p a [] b h = ap p h.0 ∙ h.1
path_start n p a (x ∷ xs) b h = ap p h.0 ∙ h.1

-- what stands behind the start is on the path, or its end
pub path_first : (n p : Option ℕ → Option ℕ) (a : Option ℕ) (xs : List ℕ) (b : Option ℕ) → Path n p a xs b
    → (n a ≡ b) ⊎ ((k : ℕ) × (n a ≡ Some k) × (1 ≤ times k xs))
path_first n p a [] b h = inl h.0
path_first n p a (x ∷ xs) b h = inr (x, h.0, omega (arith, times_first x xs))

-- what stands before the end is on the path, or its start
pub path_last : (n p : Option ℕ → Option ℕ) (a : Option ℕ) (xs : List ℕ) (b : Option ℕ) → Path n p a xs b
    → (p b ≡ a) ⊎ ((k : ℕ) × (p b ≡ Some k) × (1 ≤ times k xs))
path_last n p a [] b h = inl h.1
path_last n p a (x ∷ xs) b h =
    elim (path_last n p (Some x) xs b h.2) [
      | inl e ↦ inr (x, e, omega (arith, times_first x xs))
      | inr f ↦ inr (f.0, f.1, omega arith)
    ]

-- a chain that x is not on does not begin at x
pub chain_head : (n : Option ℕ → Option ℕ) (o : Option ℕ) (xs : List ℕ) (x : ℕ) → times x xs ≡ 0 → Chain n o xs → o ≡ Some x → ⊥
chain_head n o [] x t h e = never x o h e
chain_head n o (y ∷ ys) x t h e = let s = absent x y ys t in other x y o s.0 h.0 e

-- a chain over functions that agree on it
pub chain_on : (n n' : Option ℕ → Option ℕ) (o : Option ℕ) (xs : List ℕ) → ((k : ℕ) → 1 ≤ times k xs → n' (Some k) ≡ n (Some k)) → Chain n o xs → Chain n' o xs
chain_on n n' o [] hn h = h
chain_on n n' o (x ∷ xs) hn h =
    (h.0, rw (hn x (omega (arith, times_first x xs))) (chain_on n n' (n (Some x)) xs (λ k j. hn k (omega arith)) h.1))

-- a chain that x is not on
pub chain_kept : (n n' : Option ℕ → Option ℕ) (x : ℕ) → ((o : Option ℕ) → (n o ≡ Some x → ⊥) → n' o ≡ n o) → (o : Option ℕ) (xs : List ℕ) → times x xs ≡ 0
    → Chain n o xs → Chain n' o xs
chain_kept n n' x same o [] t h = h
chain_kept n n' x same o (y ∷ ys) t h =
    let s = absent x y ys t in
    (h.0, rw (same (Some y) (chain_head n (n (Some y)) ys x s.1 h.1)) (chain_kept n n' x same (n (Some y)) ys s.1 h.1))
