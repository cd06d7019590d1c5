-- The looks of one seat at a word find versions that never fall.
use Rattle.std.proofs.Common.{◌≡◌, ◌⊎◌, ◌≤◌, ℕ, zero, suc, List, [], ◌∷◌, ◌++◌, Some, length, slice_get, inl, inr, refl, sym, ap, subst, ⊎_elim, ◌∙◌, arith}
use Rattle.std.proofs.lemmas.Option.{get_or_from_slice_get, same_Some, slice_get_within}
use Rattle.std.specs.Prelude.{Contains}
use Rattle.rds_fmap.specs.Readers.{NeverFalls}
use Rattle.rds_fmap.specs.Views.{version_in}
use Rattle.rds_fmap.specs.declared.words.view.Look.{Look}

-- a new seat has no looks
pub none_fall : NeverFalls []
none_fall i j a b up at_a at_b same = absurd (let small = slice_get_within [] i a at_a in omega arith)

-- after one push what stands at a place stood there, or was pushed
pushed_at : (looks : List Look) (l x : Look) (place : ℕ) → slice_get (looks ++ l ∷ []) place ≡ Some x → (slice_get looks place ≡ Some x) ⊎ ((place ≡ length looks) × (l ≡ x))
pushed_at [] l x zero is = inr (refl, same_Some l x is)
pushed_at [] l x (suc place) is = absurd (let small = slice_get_within (l ∷ []) (suc place) x is in omega arith)
pushed_at (y ∷ looks) l x zero is = inl is
pushed_at (y ∷ looks) l x (suc place) is =
    ⊎_elim (λ (t : slice_get looks place ≡ Some x). inl t) (λ (t : (place ≡ length looks) × (l ≡ x)). inr (ap suc t.0, t.1)) (pushed_at looks l x place is)

-- one more look, which found no older version than those before it at its word
pub one_more : (looks : List Look) (l : Look) → NeverFalls looks →
    ((a : Look) → Contains looks a → a.word ≡ l.word → version_in a.number ≤ version_in l.number) → NeverFalls (looks ++ l ∷ [])
one_more looks l were later i j a b up at_a at_b same = ⊎_elim
    (λ (was : slice_get looks j ≡ Some b).
    let within = slice_get_within looks j b was in
    ⊎_elim (λ (also : slice_get looks i ≡ Some a). were i j a b up also was same)
    (λ (last : (i ≡ length looks) × (l ≡ a)). absurd (let place = last.0 in omega (arith, place, within, up)))
    (pushed_at looks l a i at_a))
    (λ (last : (j ≡ length looks) × (l ≡ b)).
    ⊎_elim
    (λ (also : slice_get looks i ≡ Some a).
    let there : Contains looks a = (i, slice_get_within looks i a also, get_or_from_slice_get looks i a a also) in
    subst (λ (x : Look). version_in a.number ≤ version_in x.number) last.1 (later a there (sym same ∙ ap (λ (x : Look). x.word) (sym last.1))))
    (λ (own : (i ≡ length looks) × (l ≡ a)).
    let e : version_in a.number ≡ version_in b.number = ap (λ (x : Look). version_in x.number) (sym own.1 ∙ last.1) in
    omega (arith, e))
    (pushed_at looks l a i at_a))
    (pushed_at looks l b j at_b)
