-- What a pass knows goes on to be so, where the putters and the list change.
use Rattle.std.proofs.Common.{◌≡◌, ◌≢◌, ◌⊎◌, ℕ, zero, suc, true, List, [], ◌∷◌, ◌++◌, length, set, Some, inl, inr, refl, sym, ap, subst, ◌∙◌, ⊎_elim, append_assoc, arith}
use Rattle.std.proofs.lemmas.List.{append-nil}
use mathlib.Core.Option.{some-injective, some-ne-none}
use Rattle.atomic_table.proofs.Lists.{at_set}
use Rattle.rds_seats.specs.Views.{At, Each}
use Rattle.rds_mail.specs.declared.view.View.{View}
use Rattle.rds_mail.specs.declared.view.Account.{Account}
use Rattle.rds_mail.specs.Numbers.{Number, Numbered, items_of}
use Rattle.rds_mail.specs.Shared.{Places, IsAllPut, IsPart, PutterStands, PassFits}
use Rattle.rds_mail.proofs.Numbers.{items_of-append, of_other}
use Rattle.rds_mail.proofs.Places.{some_same}

module _ {V : Type 0} where
  pub all_set : (F G : ℕ → V → Type 0) (views : List V) (place : ℕ) (w : V) → ((j : ℕ) (u : V) → At views j u → F j u)
      → G place w → ((j : ℕ) (u : V) → j ≢ place → F j u → G j u) → (j : ℕ) (u : V) → At (set views place w) j u → G j u
  all_set F G views place w all mine others j u e = ⊎_elim
      (λ (t : (j ≡ place) × (w ≡ u)). subst (λ (y : ℕ × V). G y.0 y.1) (λ i. (sym t.0 i, t.1 i)) mine)
      (λ (t : (j ≢ place) × At views j u). others j u t.0 (all j u t.1))
      (at_set views place j w u e)

  at_end : (l : List V) (a b : V) (j : ℕ) → At (l ++ a ∷ []) j b → At l j b ⊎ ((j ≡ length l) × (a ≡ b))
  at_end [] a b zero e = inr (refl, some-injective a b e)
  at_end [] a b (suc j) e = absurd (some-ne-none b (sym e))
  at_end (x ∷ xs) a b zero e = inl e
  at_end (x ∷ xs) a b (suc j) e = ⊎_elim (λ (t : At xs j b). inl t) (λ (t : (j ≡ length xs) × (a ≡ b)). inr (ap suc t.0, t.1)) (at_end xs a b j e)

  pub all_snoc : (F : ℕ → V → Type 0) (views : List V) (w : V) → ((j : ℕ) (u : V) → At views j u → F j u)
      → F (length views) w → (j : ℕ) (u : V) → At (views ++ w ∷ []) j u → F j u
  all_snoc F views w all mine j u e = ⊎_elim
      (λ (t : At views j u). all j u t)
      (λ (t : (j ≡ length views) × (w ≡ u)). subst (λ (y : ℕ × V). F y.0 y.1) (λ i. (sym t.0 i, t.1 i)) mine)
      (at_end views w u j e)

  pub each_nil : (P : V → Type 0) → Each [] P
  each_nil P place v e = absurd (some-ne-none v (sym e))

  pub each_snoc : (P : V → Type 0) (xs : List V) (x : V) → Each xs P → P x → Each (xs ++ x ∷ []) P
  each_snoc P xs x all mine = all_snoc (λ j u. P u) xs x all mine

-- neither 0 nor the place of one pass is the place of another
pub not_place : (s j other : ℕ) → j ≢ other → (s ≡ 0) ⊎ (s ≡ suc j) → s ≢ suc other
not_place s j other apart is same = ⊎_elim (λ (z : s ≡ 0). absurd (omega arith)) (λ (z : s ≡ suc j). apart (omega arith)) is

module _ {T : Type 0} where
  abbrev pub AllFit : Places → List (Numbered T) → List (Numbered T) → ℕ → List (View T) → Type 0
  AllFit places log got reader views = (place : ℕ) (v : View T) → At views place v → PassFits places log got reader place v

  pub part_whole : (log : List (Numbered T)) (a : Account T) → IsAllPut log a → IsPart log a
  part_whole log a whole = ([], sym whole ∙ sym (append-nil a.put))

  pub part_more : (log more : List (Numbered T)) (a : Account T) → IsPart log a → IsPart (log ++ more) a
  part_more log more a p = (
    p.0 ++ items_of a.number more,
    items_of-append a.number log more ∙ (ap (λ l. l ++ items_of a.number more) p.1 ∙ append_assoc a.put p.0 (items_of a.number more)),
  )

  -- an item of another putter changes nothing for this one
  pub stands_put : (places : Places) (log : List (Numbered T)) (s n : ℕ) (a : Account T) (number : Number) (x : T)
      → places number ≡ Some n → s ≢ n → PutterStands places log s a → PutterStands places (log ++ (number, x) ∷ []) s a
  stands_put places log s n a number x at apart st = record {
    here = st.here;
    whole = st.whole ∙ sym (of_other a.number number log x (λ same. apart (some_same s n (sym st.here ∙ (ap places same ∙ at)))));
    splits = st.splits;
  }

  pub fits_on : (places places' : Places) (log log' got got' : List (Numbered T)) (reader reader' j : ℕ) (u : View T)
      → ((s : ℕ) (a : Account T) → (s ≡ 0) ⊎ (s ≡ suc j) → PutterStands places log s a → PutterStands places' log' s a)
      → ((a : Account T) → IsPart log a → IsPart log' a)
      → (u.gets ≡ true → (j ≡ reader) × (u.got ≡ got) → (j ≡ reader') × (u.got ≡ got'))
      → PassFits places log got reader j u → PassFits places' log' got' reader' j u
  fits_on places places' log log' got got' reader reader' j u stands part gets f = record {
    puts = λ is. stands (suc j) u.account (inr refl) (f.puts is);
    gets = λ is. gets is (f.gets is);
    notes = λ is. part u.account (f.notes is);
    told = λ i a at. part a (f.told i a at);
    joined = λ i a at. stands 0 a (inl refl) (f.joined i a at);
  }
