-- What a getter shows of putters that have the numbers of their places.
use Rattle.std.proofs.Common.{◌≡◌, ℕ, zero, suc, ◌<◌, ◌≤◌, ◌==◌, true, false, List, [], ◌∷◌, ◌++◌, All, Some, Option, length, map, slice_get, option_map, refl, sym, ap, subst, ⊎_elim, ◌∙◌, arith}
use Rattle.std.proofs.lemmas.Bool.{cases_Bool, cond-true, cond-false, eq-eqb}
use Rattle.std.proofs.lemmas.List.Elements.{All-head, All-tail}
use Rattle.std.proofs.lemmas.Option.{none-some, same_Some, slice_get_within, slice_get-map}
use mathlib.Core.Option.{some, some-injective, some-ne-none}
use Rattle.rds_seats.specs.Views.{At, Each}
use Rattle.rds_model.specs.Honest.{Begins}
use Rattle.rds_mail.specs.declared.view.Account.{Account}
use Rattle.rds_mail.specs.Merging.{AreAll, HasNumber, IsMerged, by_key}
use Rattle.rds_mail.specs.Numbers.{Number, Numbered, bare_items, items_of, same_number}
use Rattle.rds_mail.specs.Passes.{Getter, Putter, account_of}
use Rattle.rds_mail.specs.Shared.{IsPart}
use Rattle.rds_host_end.specs.Joins.{AreMarked, PutsAreTold}
use Rattle.rds_host.specs.Passes.{putter_number, splits_at}
use Rattle.rds_host.specs.Telling.{IsTold}
use Rattle.rds_host_end.proofs.Places.{mapped_at, there_is}
use Rattle.rds_host_end.specs.Shown.{ShowsAllPuts}

-- a number is the same as itself
same_here : (p : Number) → same_number p p ≡ true
same_here [] = refl
same_here (k ∷ p) = cond-true (k == k) (same_number p p) false (eq-eqb k k refl) ∙ same_here p

pub got_at : {X : Type 0} (xs : List X) (i : ℕ) (x : X) → At xs i x → slice_get xs i ≡ Some x
got_at [] i x at = absurd (some-ne-none x (sym at))
got_at (y ∷ xs) zero x at = ap Some (some-injective y x at)
got_at (y ∷ xs) (suc i) x at = got_at xs i x at

pub at_got : {X : Type 0} (xs : List X) (i : ℕ) (x : X) → slice_get xs i ≡ Some x → At xs i x
at_got [] i x is = absurd (none-some x is)
at_got (y ∷ xs) zero x is = ap some (same_Some y x is)
at_got (y ∷ xs) (suc i) x is = at_got xs i x is

-- the place of the putter with this number
abbrev pub place_of : Number → ℕ
place_of [] = 0
place_of (k ∷ rest) = suc k

pub place_again : (i : ℕ) → place_of (putter_number i) ≡ i
place_again zero = refl
place_again (suc i) = refl

-- what a putter has split off has a number of a later place
later : (count i k : ℕ) → k < splits_at count i → (k ∷ putter_number i ≡ putter_number (suc k)) × (suc k < count)
later count zero k below = (refl, omega arith)
later count (suc i) k below = absurd (omega arith)

module _ {T : Type 0} where
  -- so many putters, each with the number of its place
  pub record AreInOrder (count : ℕ) (puts : List (Putter T)) : Type 0 where
    pub size : length puts ≡ count
    pub each : (i : ℕ) (p : Putter T) → slice_get puts i ≡ Some p → (p.number ≡ putter_number i) × (p.splits ≡ splits_at count i)

  account_at : (puts : List (Putter T)) (i : ℕ) (p : Putter T) → slice_get puts i ≡ Some p → At (map account_of puts) i (account_of p)
  account_at puts i p is = at_got (map account_of puts) i (account_of p) (slice_get-map account_of puts i ∙ ap (option_map account_of) is)

  putter_at : (puts : List (Putter T)) (i : ℕ) (a : Account T) → At (map account_of puts) i a → (p : Putter T) × (slice_get puts i ≡ Some p) × (account_of p ≡ a)
  putter_at puts i a at = mapped_at account_of puts a i (got_at (map account_of puts) i a at)

  number_there : (count : ℕ) (puts : List (Putter T)) → AreInOrder count puts → (i : ℕ) → i < count → HasNumber (map account_of puts) (putter_number i)
  number_there count puts are i small =
      let size = are.size in
      let p = there_is puts i (omega arith) in
      (i, account_of p.0, account_at puts i p.0 p.1, (are.each i p.0 p.1).0)

  -- they are all that there are
  pub all_there : (count : ℕ) (puts : List (Putter T)) → AreInOrder count puts → 1 ≤ count → AreAll (map account_of puts)
  all_there count puts are enough = record {
    first = number_there count puts are 0 (omega arith);
    each = λ i a at k below.
        let p = putter_at puts i a at in
        let is = are.each i p.0 p.1 in
        let number : a.number ≡ putter_number i = ap (λ (b : Account T). b.number) (sym p.2) ∙ is.0 in
        let splits : a.splits ≡ splits_at count i = ap (λ (b : Account T). b.splits) (sym p.2) ∙ is.1 in
        let next = later count i k (subst (λ (n : ℕ). k < n) splits below) in
        subst (λ (n : Number). HasNumber (map account_of puts) n) (sym (ap (λ (n : Number). k ∷ n) number ∙ next.0)) (number_there count puts are (suc k) next.1);
  }

  module _ (Own : ℕ → T → Type 0) (mark : ℕ → ℕ) where
    -- each has put only items of the mark of its place, and no two places have one mark
    pub record AreApart (count : ℕ) (puts : List (Putter T)) : Type 0 where
      pub own : (i : ℕ) (p : Putter T) → slice_get puts i ≡ Some p → All (Own (mark i)) p.put
      pub apart : (i j : ℕ) → i < count → j < count → mark i ≡ mark j → i ≡ j

    abbrev mark_of : Number → ℕ
    mark_of number = mark (place_of number)

    mark_there : (count : ℕ) (puts : List (Putter T)) → AreInOrder count puts → (i : ℕ) (p : Putter T) → slice_get puts i ≡ Some p → mark (place_of p.number) ≡ mark i
    mark_there count puts are i p at = ap mark (ap place_of (are.each i p at).0 ∙ place_again i)

    marked : (count : ℕ) (puts : List (Putter T)) → AreInOrder count puts → AreApart count puts → AreMarked Own mark_of (map account_of puts)
    marked count puts are apart = record {
      own = λ i a at.
          let p = putter_at puts i a at in
          subst (λ (b : Account T). All (Own (mark_of b.number)) b.put) p.2
          (subst (λ (m : ℕ). All (Own m) p.0.put) (sym (mark_there count puts are i p.0 p.1)) (apart.own i p.0 p.1));
      apart = λ i a at j b at' same.
          let p = putter_at puts i a at in
          let q = putter_at puts j b at' in
          let size = are.size in
          let first = slice_get_within puts i p.0 p.1 in
          let second = slice_get_within puts j q.0 q.1 in
          let marks : mark i ≡ mark j =
          sym (mark_there count puts are i p.0 p.1) ∙ (ap (λ (x : Account T). mark_of x.number) p.2 ∙ (same ∙ (sym (ap (λ (x : Account T). mark_of x.number) q.2) ∙ mark_there count puts are j q.0 q.1))) in
          let place : i ≡ j = apart.apart i j (omega arith) (omega arith) marks in
          ap (λ (x : Account T). x.number) (sym p.2) ∙ ((are.each i p.0 p.1).0 ∙ (ap putter_number place ∙ (sym (are.each j q.0 q.1).0 ∙ ap (λ (x : Account T). x.number) q.2)));
    }

    module _ (key : T → Option ℕ) (g : Getter T) (count : ℕ) (puts : List (Putter T)) (are : AreInOrder count puts) (apart : AreApart count puts) (shown : ShowsAllPuts key Own g puts) where
      -- what the getter got with the mark of a place begins what the putter there has put with it
      pub begins_there : (i : ℕ) (p : Putter T) → slice_get puts i ≡ Some p → Begins (by_key key (mark i) (bare_items g.got)) (by_key key (mark i) p.put)
      begins_there i p at =
          subst (λ (m : ℕ). Begins (by_key key m (bare_items g.got)) (by_key key m p.put)) (mark_there count puts are i p at)
          (shown.begin mark_of (marked count puts are apart) i (account_of p) (account_at puts i p at))

      -- it is all of it where the getter was told of all putters and got what it was told of
      pub all_got_there : Each g.told (IsPart g.got) → ((j : ℕ) (q : Putter T) → slice_get puts j ≡ Some q → IsTold g.told q) → (i : ℕ) (p : Putter T) → slice_get puts i ≡ Some p →
          by_key key (mark i) (bare_items g.got) ≡ by_key key (mark i) p.put
      all_got_there parts told i p at =
          let known : PutsAreTold g.told (map account_of puts) = λ j a at'.
          let q = putter_at puts j a at' in
          subst (λ (b : Account T). (h : ℕ) × (t : Account T) × At g.told h t × ((t.number ≡ b.number) × (t.put ≡ b.put))) q.2 (told j q.0 q.1) in
          subst (λ (m : ℕ). by_key key m (bare_items g.got) ≡ by_key key m p.put) (mark_there count puts are i p at)
          (shown.all mark_of (marked count puts are apart) parts known i (account_of p) (account_at puts i p at))

  bare_at : (got : List (Numbered T)) (k : ℕ) (x : T) → slice_get (bare_items got) k ≡ Some x → (e : Numbered T) × At got k e × (e.1 ≡ x)
  bare_at [] k x at = absurd (none-some x at)
  bare_at (e ∷ got) zero x at = (e, refl, same_Some e.1 x at)
  bare_at (e ∷ got) (suc k) x at = bare_at got k x at

  -- what holds of all items of a number, and of more, holds of each item with that number
  of_number : (P : T → Type 0) (got : List (Numbered T)) (rest : List T) (i : ℕ) (e : Numbered T) → At got i e → All P (items_of e.0 got ++ rest) → P e.1
  of_number P [] rest i e at all = absurd (some-ne-none e (sym at))
  of_number P (x ∷ got) rest zero e at all =
      let is : x ≡ e = some-injective x e at in
      let same : same_number e.0 x.0 ≡ true = ap (λ (y : Numbered T). same_number e.0 y.0) is ∙ same_here e.0 in
      subst (λ (y : Numbered T). P y.1) is
      (All-head P x.1 (items_of e.0 got ++ rest) (subst (λ (l : List T). All P (l ++ rest)) (cond-true (same_number e.0 x.0) (x.1 ∷ items_of e.0 got) (items_of e.0 got) same) all))
  of_number P (x ∷ got) rest (suc i) e at all = ⊎_elim
      (λ (same : same_number e.0 x.0 ≡ true).
      of_number P got rest i e at (All-tail P x.1 (items_of e.0 got ++ rest)
      (subst (λ (l : List T). All P (l ++ rest)) (cond-true (same_number e.0 x.0) (x.1 ∷ items_of e.0 got) (items_of e.0 got) same) all)))
      (λ (other : same_number e.0 x.0 ≡ false).
      of_number P got rest i e at (subst (λ (l : List T). All P (l ++ rest)) (cond-false (same_number e.0 x.0) (x.1 ∷ items_of e.0 got) (items_of e.0 got) other) all))
      (cases_Bool (same_number e.0 x.0))

  -- each item that was got is one that some putter has put
  pub putter_of : (P : ℕ → T → Type 0) (got : List (Numbered T)) (puts : List (Putter T)) → IsMerged got (map account_of puts) → ((i : ℕ) (p : Putter T) → slice_get puts i ≡ Some p → All (P i) p.put)
      → (k : ℕ) (x : T) → slice_get (bare_items got) k ≡ Some x → (i : ℕ) × (i < length puts) × P i x
  putter_of P got puts merged own k x at =
      let e = bare_at got k x at in
      let h = merged.numbers k e.0 e.1 in
      let p = putter_at puts h.0 h.1 h.2 in
      let begin = merged.begin h.0 h.1 h.2 in
      let put : All (P h.0) h.1.put = subst (λ (b : Account T). All (P h.0) b.put) p.2 (own h.0 p.0 p.1) in
      let all : All (P h.0) (items_of e.0.0 got ++ begin.0) = subst (λ (n : Number). All (P h.0) (items_of n got ++ begin.0)) h.3 (subst (λ (l : List T). All (P h.0) l) begin.1 put) in
      (h.0, slice_get_within puts h.0 p.0 p.1, subst (λ (y : T). P h.0 y) e.2 (of_number (P h.0) got begin.0 k e.0 e.1 all))
