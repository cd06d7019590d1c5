use Rattle.std.proofs.Common.{◌≡◌, ℕ, zero, suc, ◌<◌, List, [], ◌∷◌, ◌++◌, map, sym, ap, subst, refl, ◌∙◌, arith}
use mathlib.Core.Option.{some-injective, some-ne-none}
use Rattle.rds_seats.specs.Views.{At}
use Rattle.rds_mail.specs.declared.view.Account.{Account}
use Rattle.rds_mail.specs.Passes.{Putter, Getter, account_of}
use Rattle.rds_mail.specs.Merging.{AreAll, HasNumber}
use Rattle.rds_test_tables.proofs.gathering.gathered.Goals as goal

module _ (a b : Account ℕ) (first : a.number ≡ []) (one : a.splits ≡ 1) (second : b.number ≡ 0 ∷ []) (none : b.splits ≡ 0) where
  split_off : (place : ℕ) (v : Account ℕ) → At (a ∷ b ∷ []) place v → (k : ℕ) → k < v.splits → HasNumber (a ∷ b ∷ []) (k ∷ v.number)
  split_off zero v e k less =
      let is : a ≡ v = some-injective a v e in
      let splits : v.splits ≡ 1 = ap (λ (x : Account ℕ). x.splits) (sym is) ∙ one in
      let number : v.number ≡ [] = ap (λ (x : Account ℕ). x.number) (sym is) ∙ first in
      let only : k ≡ 0 = omega arith in
      (1, b, refl, second ∙ (ap (λ n. n ∷ []) (sym only) ∙ ap (λ l. k ∷ l) (sym number)))
  split_off (suc zero) v e k less =
      let is : b ≡ v = some-injective b v e in
      let splits : v.splits ≡ 0 = ap (λ (x : Account ℕ). x.splits) (sym is) ∙ none in
      absurd (omega arith)
  split_off (suc (suc place)) v e k less = absurd (some-ne-none v (sym e))

  two_are_all : AreAll (a ∷ b ∷ [])
  two_are_all = record { first = (0, a, refl, first); each = split_off }

pub gather_keyed-requires-clause-all : goal.gather_keyed-requires-clause-all
gather_keyed-requires-clause-all g c =
    let a : Account ℕ = account_of c.args.first in
    let b : Account ℕ = account_of c.args.second in
    let all : AreAll (a ∷ b ∷ []) = two_are_all a b (ap (λ (p : Putter ℕ). p.number) c.requires.first) (ap (λ (p : Putter ℕ). p.splits) c.requires.first)
    (ap (λ (p : Putter ℕ). p.number) c.requires.second) (ap (λ (p : Putter ℕ). p.splits) c.requires.second) in
    let none : c.args.get.now.joined ≡ [] = ap (λ (h : Getter ℕ). h.joined) c.requires.get in
    let are : map account_of c.in_ok-puts.puts.items ≡ a ∷ b ∷ [] = ap (map account_of) c.in_ok-puts.ensures.items in
    subst (λ (l : List (Account ℕ)). AreAll l) (sym (ap (λ l. l ++ map account_of c.in_ok-puts.puts.items) none ∙ are)) all
