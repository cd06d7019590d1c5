-- What was got with one key, where each putter has a key of its own.
use Rattle.std.proofs.Common.{◌≡◌, ◌⊎◌, ℕ, zero, suc, Bool, true, false, true≢false, cond, List, [], ◌∷◌, ◌++◌, Option, Some, None, refl, sym, ap, subst, ◌∙◌, ⊎_elim}
use Rattle.std.proofs.lemmas.Bool.{cases_Bool, cond-true, cond-false, eqb-true}
use mathlib.Core.Option.{some-injective, some-ne-none}
use Rattle.rds_seats.specs.Views.{At, Each}
use Rattle.rds_mail.specs.declared.view.Account.{Account}
use Rattle.rds_mail.specs.Numbers.{Number, Numbered, same_number, items_of, bare_items}
use Rattle.rds_mail.specs.Merging.{IsMerged, is_key, by_key, IsKeyed, KeysBegin}
use Rattle.rds_mail.proofs.Numbers.{same_here}
use Rattle.rds_mail.proofs.Places.{some_same, some_not}

key_is : (o : Option ℕ) (m : ℕ) → is_key o m ≡ true → o ≡ Some m
key_is None m is = absurd (true≢false (sym is))
key_is (Some j) m is = ap Some (eqb-true j m is)

module _ {T : Type 0} where
  chosen : (b : Bool) (x : T) (l m : List T) → cond b (x ∷ (l ++ m)) (l ++ m) ≡ cond b (x ∷ l) l ++ m
  chosen true x l m = refl
  chosen false x l m = refl

  by_key-append : (key : T → Option ℕ) (m : ℕ) (xs ys : List T) → by_key key m (xs ++ ys) ≡ by_key key m xs ++ by_key key m ys
  by_key-append key m [] ys = refl
  by_key-append key m (x ∷ xs) ys = ap (λ l. cond (is_key (key x) m) (x ∷ l) l) (by_key-append key m xs ys) ∙ chosen (is_key (key x) m) x (by_key key m xs) (by_key key m ys)

  -- an item that isn't the putter's doesn't have the key
  only_own : (key : T → Option ℕ) (m : ℕ) (p : Number) (got : List (Numbered T)) → Each got (λ e. key e.1 ≡ Some m → e.0 ≡ p)
      → by_key key m (bare_items got) ≡ by_key key m (items_of p got)
  only_own key m p [] own = refl
  only_own key m p (e ∷ got) own =
      let rest : by_key key m (bare_items got) ≡ by_key key m (items_of p got) = only_own key m p got (λ i x at. own (suc i) x at) in
      ⊎_elim
      (λ (yes : is_key (key e.1) m ≡ true).
      let is : e.0 ≡ p = own zero e refl (key_is (key e.1) m yes) in
      let same : same_number p e.0 ≡ true = ap (same_number p) is ∙ same_here p in
      cond-true (is_key (key e.1) m) (e.1 ∷ by_key key m (bare_items got)) (by_key key m (bare_items got)) yes
      ∙ (ap (λ l. e.1 ∷ l) rest
      ∙ (sym (cond-true (is_key (key e.1) m) (e.1 ∷ by_key key m (items_of p got)) (by_key key m (items_of p got)) yes)
      ∙ ap (by_key key m) (sym (cond-true (same_number p e.0) (e.1 ∷ items_of p got) (items_of p got) same)))))
      (λ (off : is_key (key e.1) m ≡ false).
      cond-false (is_key (key e.1) m) (e.1 ∷ by_key key m (bare_items got)) (by_key key m (bare_items got)) off
      ∙ (rest
      ∙ ⊎_elim
      (λ (same : same_number p e.0 ≡ true).
      sym (cond-false (is_key (key e.1) m) (e.1 ∷ by_key key m (items_of p got)) (by_key key m (items_of p got)) off)
      ∙ ap (by_key key m) (sym (cond-true (same_number p e.0) (e.1 ∷ items_of p got) (items_of p got) same)))
      (λ (other : same_number p e.0 ≡ false). ap (by_key key m) (sym (cond-false (same_number p e.0) (e.1 ∷ items_of p got) (items_of p got) other)))
      (cases_Bool (same_number p e.0))))
      (cases_Bool (is_key (key e.1) m))

  -- what holds of all items of a putter holds of each item with its number
  of_each : (P : T → Type 0) (got : List (Numbered T)) (rest : List T) (i : ℕ) (e : Numbered T) → At got i e → Each (items_of e.0 got ++ rest) P → P e.1
  of_each P [] rest i e at all = absurd (some-ne-none e (sym at))
  of_each P (x ∷ got) rest zero e at all =
      let is : x ≡ e = some-injective x e at in
      let same : same_number e.0 x.0 ≡ true = ap (λ (y : Numbered T). same_number e.0 y.0) is ∙ same_here e.0 in
      subst (λ (y : Numbered T). P y.1) is (subst (λ l. Each (l ++ rest) P) (cond-true (same_number e.0 x.0) (x.1 ∷ items_of e.0 got) (items_of e.0 got) same) all zero x.1 refl)
  of_each P (x ∷ got) rest (suc i) e at all = ⊎_elim
      (λ (same : same_number e.0 x.0 ≡ true).
      let some : Each (x.1 ∷ (items_of e.0 got ++ rest)) P = subst (λ l. Each (l ++ rest) P) (cond-true (same_number e.0 x.0) (x.1 ∷ items_of e.0 got) (items_of e.0 got) same) all in
      of_each P got rest i e at (λ j y at'. some (suc j) y at'))
      (λ (other : same_number e.0 x.0 ≡ false).
      of_each P got rest i e at (subst (λ l. Each (l ++ rest) P) (cond-false (same_number e.0 x.0) (x.1 ∷ items_of e.0 got) (items_of e.0 got) other) all))
      (cases_Bool (same_number e.0 x.0))

  pub keyed : (key : T → Option ℕ) (mark : Number → ℕ) (got : List (Numbered T)) (puts : List (Account T)) → IsMerged got puts → IsKeyed key mark puts → KeysBegin key mark got puts
  keyed key mark got puts merged keys i a at =
      let m : ℕ = mark a.number in
      let own : Each got (λ e. key e.1 ≡ Some m → e.0 ≡ a.number) = λ j e at' is.
      let h = merged.numbers j e at' in
      let b : Account T = h.1 in
      let begin = merged.begin h.0 b h.2 in
      let P : T → Type 0 = λ x. (key x ≡ None) ⊎ (key x ≡ Some (mark b.number)) in
      let all : Each (items_of e.0 got ++ begin.0) P = subst (λ q. Each (items_of q got ++ begin.0) P) h.3 (subst (λ l. Each l P) begin.1 (keys.own h.0 b h.2)) in
      ⊎_elim
      (λ (none : key e.1 ≡ None). absurd (some_not m (sym is ∙ none)))
      (λ (marked : key e.1 ≡ Some (mark b.number)). sym h.3 ∙ keys.apart h.0 b h.2 i a at (some_same (mark b.number) m (sym marked ∙ is)))
      (of_each P got begin.0 j e at' all) in
      let begin = merged.begin i a at in (
        by_key key m begin.0,
        ap (by_key key m) begin.1 ∙ (by_key-append key m (items_of a.number got) begin.0 ∙ ap (λ l. l ++ by_key key m begin.0) (sym (only_own key m a.number got own))),
      )
