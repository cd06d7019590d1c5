-- Laws, each proved: proofs in other crates use them. Nothing here has to be believed.
-- One view set, one added: what some seat knows, what each knows, and the totals.
use Rattle.std.proofs.Common.{◌≡◌, ◌≢◌, ℕ, zero, suc, ◌+◌, ◌*◌, ◌<◌, ◌≤◌, List, [], ◌∷◌, ◌++◌, length, set, refl, sym, ap, subst, ◌∙◌, ⊎_elim, arith}
use mathlib.Core.Logic.{dite}
use mathlib.Core.Option.{some-ne-none, some-injective}
use native.Mathlib.Decide.{ℕ_discrete}
use native.Mathlib.Nat.{add-mul}
use lib.ListN.{get_elem?}
use Rattle.atomic_table.proofs.Lists.{at_set, at_snoc, at_longer, set_here, set_else}
use Rattle.rds_seats.specs.Views.{At, Has, Each, total}

module _ {V : Type 0} where
  pub at_within : (views : List V) (i : ℕ) (v : V) → At views i v → i < length views
  at_within [] i v e = absurd (some-ne-none v (sym e))
  at_within (x ∷ xs) zero v e = omega arith
  at_within (x ∷ xs) (suc i) v e = let h = at_within xs i v e in omega arith

  pub at_here : (views : List V) (i : ℕ) (v w : V) → At views i v → At (set views i w) i w
  at_here views i v w e = set_here views i w (at_within views i v e)

  pub at_there : (views : List V) (i j : ℕ) (u w : V) → j ≢ i → At views j u → At (set views i w) j u
  at_there views i j u w apart e = set_else views i j w apart ∙ e

  -- what some seat knew it knows still, where the seat that was set knows it too
  pub has_set : (P : V → Type 0) (views : List V) (i : ℕ) (v w : V) → At views i v → (P v → P w) → Has views P → Has (set views i w) P
  has_set P views i v w here keeps h = dite (ℕ_discrete h.0 i)
      (λ same. (i, w, at_here views i v w here, keeps (subst P (some-injective _ _ (sym h.2 ∙ (ap (get_elem? views) same ∙ here))) h.3)))
      (λ apart. (h.0, h.1, at_there views i h.0 h.1 w apart h.2, h.3))

  -- what some seat knows after the set it knew before, where what the seat that was set knows was known
  pub has_unset : (P : V → Type 0) (views : List V) (i : ℕ) (w : V) → (P w → Has views P) → Has (set views i w) P → Has views P
  has_unset P views i w known h = ⊎_elim
      (λ (t : (h.0 ≡ i) × (w ≡ h.1)). known (subst P (sym t.1) h.3))
      (λ (t : (h.0 ≢ i) × At views h.0 h.1). (h.0, h.1, t.1, h.3))
      (at_set views i h.0 w h.1 h.2)

  pub has_snoc : (P : V → Type 0) (views : List V) (w : V) → Has views P → Has (views ++ w ∷ []) P
  has_snoc P views w h = (h.0, h.1, at_longer views (w ∷ []) h.0 h.1 h.2, h.3)

  pub has_unsnoc : (P : V → Type 0) (views : List V) (w : V) → (P w → Has views P) → Has (views ++ w ∷ []) P → Has views P
  has_unsnoc P views w known h = ⊎_elim
      (λ was. (h.0, h.1, was, h.3))
      (λ (same : w ≡ h.1). known (subst P (sym same) h.3))
      (at_snoc views w h.1 h.0 h.2)

  pub each_set : (P Q : V → Type 0) (views : List V) (i : ℕ) (w : V) → Each views P → ((v : V) → P v → Q v) → Q w → Each (set views i w) Q
  each_set P Q views i w all onward here j u e = ⊎_elim
      (λ (t : (j ≡ i) × (w ≡ u)). subst Q t.1 here)
      (λ (t : (j ≢ i) × At views j u). onward u (all j u t.1))
      (at_set views i j w u e)

  pub each_snoc : (P Q : V → Type 0) (views : List V) (w : V) → Each views P → ((v : V) → P v → Q v) → Q w → Each (views ++ w ∷ []) Q
  each_snoc P Q views w all onward here j u e = ⊎_elim
      (λ was. onward u (all j u was))
      (λ (same : w ≡ u). subst Q same here)
      (at_snoc views w u j e)

  pub total_set : (f : V → ℕ) (views : List V) (i : ℕ) (v w : V) → At views i v → total f (set views i w) + f v ≡ total f views + f w
  total_set f [] i v w e = absurd (some-ne-none v (sym e))
  total_set f (x ∷ xs) zero v w e = let same : f x ≡ f v = ap f (some-injective x v e) in omega arith
  total_set f (x ∷ xs) (suc i) v w e = let h = total_set f xs i v w e in omega arith

  pub total_snoc : (f : V → ℕ) (views : List V) (w : V) → total f (views ++ w ∷ []) ≡ total f views + f w
  total_snoc f [] w = omega arith
  total_snoc f (x ∷ xs) w = let h = total_snoc f xs w in omega arith

  pub total_at : (f : V → ℕ) (views : List V) (i : ℕ) (v : V) → At views i v → f v ≤ total f views
  total_at f [] i v e = absurd (some-ne-none v (sym e))
  total_at f (x ∷ xs) zero v e = let same : f x ≡ f v = ap f (some-injective x v e) in omega arith
  total_at f (x ∷ xs) (suc i) v e = let h = total_at f xs i v e in omega arith

  pub total_below : (f g : V → ℕ) (views : List V) → Each views (λ v. f v ≤ g v) → total f views ≤ total g views
  total_below f g [] all = omega arith
  total_below f g (x ∷ xs) all = let h = total_below f g xs (λ i. all (suc i)) in let k = all 0 x refl in omega arith

  pub total_times : (f : V → ℕ) (k : ℕ) (views : List V) → total (λ v. f v * k) views ≡ total f views * k
  total_times f k [] = omega arith
  total_times f k (x ∷ xs) = let h = total_times f k xs in let m = add-mul (f x) (total f xs) k in omega arith

  -- what two seats have is within the total
  pub total_two : (f : V → ℕ) (views : List V) (i j : ℕ) (v u : V) → i ≢ j → At views i v → At views j u → f v + f u ≤ total f views
  total_two f [] i j v u apart e e' = absurd (some-ne-none v (sym e))
  total_two f (x ∷ xs) zero zero v u apart e e' = absurd (apart refl)
  total_two f (x ∷ xs) zero (suc j) v u apart e e' = let same : f x ≡ f v = ap f (some-injective x v e) in let h = total_at f xs j u e' in omega arith
  total_two f (x ∷ xs) (suc i) zero v u apart e e' = let same : f x ≡ f u = ap f (some-injective x u e') in let h = total_at f xs i v e in omega arith
  total_two f (x ∷ xs) (suc i) (suc j) v u apart e e' = let h = total_two f xs i j v u (λ s. apart (ap suc s)) e e' in omega arith
