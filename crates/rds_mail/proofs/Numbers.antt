-- Numbers of putters compared, and what a list has of each.
use Rattle.std.proofs.Common.{◌≡◌, ◌≢◌, ◌⊎◌, ℕ, zero, suc, ◌==◌, Bool, true, false, cond, List, [], ◌∷◌, ◌++◌, length, inl, inr, refl, sym, ap, ◌∙◌, ⊎_elim, arith}
use Rattle.std.proofs.lemmas.Bool.{cases_eq, cases_Bool, cond-true, cond-false, eq-eqb, ne_eqb}
use Rattle.std.proofs.lemmas.List.{append-nil}
use mathlib.Core.List.{cons≢nil}
use mathlib.Core.Option.{some-injective, some-ne-none}
use Rattle.rds_seats.specs.Views.{At}
use Rattle.rds_mail.specs.Numbers.{Number, Numbered, same_number, items_of, bare_items}

module _ {A : Type 0} where
  abbrev head_or : A → List A → A
  head_or x [] = x
  head_or x (y ∷ ys) = y

  abbrev tail_of : List A → List A
  tail_of [] = []
  tail_of (y ∷ ys) = ys

  pub cons_head : (x y : A) (xs ys : List A) → x ∷ xs ≡ y ∷ ys → x ≡ y
  cons_head x y xs ys e = ap (head_or x) e

  pub cons_tail : (x y : A) (xs ys : List A) → x ∷ xs ≡ y ∷ ys → xs ≡ ys
  cons_tail x y xs ys e = ap tail_of e

pub longer : (k : ℕ) (p : Number) → k ∷ p ≢ p
longer k p e = absurd (let l : suc (length p) ≡ length p = ap length e in omega arith)

pub number_cases : (p q : Number) → ((same_number p q ≡ true) × (p ≡ q)) ⊎ ((same_number p q ≡ false) × (p ≢ q))
number_cases [] [] = inl (refl, refl)
number_cases [] (k ∷ q) = inr (refl, λ e. cons≢nil (sym e))
number_cases (j ∷ p) [] = inr (refl, λ e. cons≢nil e)
number_cases (j ∷ p) (k ∷ q) = ⊎_elim
    (λ (same : j ≡ k). ⊎_elim
    (λ (t : (same_number p q ≡ true) × (p ≡ q)). inl (cond-true (j == k) (same_number p q) false (eq-eqb j k same) ∙ t.0, λ i. same i ∷ t.1 i))
    (λ (t : (same_number p q ≡ false) × (p ≢ q)). inr (cond-true (j == k) (same_number p q) false (eq-eqb j k same) ∙ t.0, λ e. t.1 (cons_tail j k p q e)))
    (number_cases p q))
    (λ (apart : j ≢ k). inr (cond-false (j == k) (same_number p q) false (ne_eqb j k apart), λ e. apart (cons_head j k p q e)))
    (cases_eq j k)

pub same_here : (p : Number) → same_number p p ≡ true
same_here p = ⊎_elim (λ (t : (same_number p p ≡ true) × (p ≡ p)). t.0) (λ (t : (same_number p p ≡ false) × (p ≢ p)). absurd (t.1 refl)) (number_cases p p)

pub same_not : (p q : Number) → p ≢ q → same_number p q ≡ false
same_not p q apart = ⊎_elim (λ (t : (same_number p q ≡ true) × (p ≡ q)). absurd (apart t.1)) (λ (t : (same_number p q ≡ false) × (p ≢ q)). t.0) (number_cases p q)

module _ {T : Type 0} where
  pub items-append : (xs ys : List (Numbered T)) → bare_items (xs ++ ys) ≡ bare_items xs ++ bare_items ys
  items-append [] ys = refl
  items-append (e ∷ xs) ys = ap (λ l. e.1 ∷ l) (items-append xs ys)

  chosen : (b : Bool) (x : T) (l m : List T) → cond b (x ∷ (l ++ m)) (l ++ m) ≡ cond b (x ∷ l) l ++ m
  chosen true x l m = refl
  chosen false x l m = refl

  pub items_of-append : (p : Number) (xs ys : List (Numbered T)) → items_of p (xs ++ ys) ≡ items_of p xs ++ items_of p ys
  items_of-append p [] ys = refl
  items_of-append p (e ∷ xs) ys =
      ap (λ l. cond (same_number p e.0) (e.1 ∷ l) l) (items_of-append p xs ys) ∙ chosen (same_number p e.0) e.1 (items_of p xs) (items_of p ys)

  -- an item behind a list stands behind the items of its putter
  pub of_put : (p : Number) (log : List (Numbered T)) (x : T) → items_of p (log ++ (p, x) ∷ []) ≡ items_of p log ++ x ∷ []
  of_put p log x = items_of-append p log ((p, x) ∷ []) ∙ ap (λ l. items_of p log ++ l) (cond-true (same_number p p) (x ∷ []) [] (same_here p))

  -- and changes nothing for another
  pub of_other : (p q : Number) (log : List (Numbered T)) (x : T) → p ≢ q → items_of p (log ++ (q, x) ∷ []) ≡ items_of p log
  of_other p q log x apart = items_of-append p log ((q, x) ∷ []) ∙ (ap (λ l. items_of p log ++ l) (cond-false (same_number p q) (x ∷ []) [] (same_not p q apart)) ∙ append-nil (items_of p log))

  -- a list has an item of each putter whose number stands in it
  pub has_some : (xs ys : List (Numbered T)) (i : ℕ) (e : Numbered T) → At xs i e → items_of e.0 (xs ++ ys) ≢ []
  has_some [] ys i e at none = absurd (some-ne-none e (sym at))
  has_some (x ∷ xs) ys zero e at none =
      let is : e.0 ≡ x.0 = ap (λ (y : Numbered T). y.0) (sym (some-injective x e at)) in
      let yes : same_number e.0 x.0 ≡ true = ap (λ p. same_number e.0 p) (sym is) ∙ same_here e.0 in
      cons≢nil (sym (cond-true (same_number e.0 x.0) (x.1 ∷ items_of e.0 (xs ++ ys)) (items_of e.0 (xs ++ ys)) yes) ∙ none)
  has_some (x ∷ xs) ys (suc i) e at none = ⊎_elim
      (λ (yes : same_number e.0 x.0 ≡ true). cons≢nil (sym (cond-true (same_number e.0 x.0) (x.1 ∷ items_of e.0 (xs ++ ys)) (items_of e.0 (xs ++ ys)) yes) ∙ none))
      (λ (no' : same_number e.0 x.0 ≡ false). has_some xs ys i e at (sym (cond-false (same_number e.0 x.0) (x.1 ∷ items_of e.0 (xs ++ ys)) (items_of e.0 (xs ++ ys)) no') ∙ none))
      (cases_Bool (same_number e.0 x.0))

  -- what is queued has the first item first
  pub first_queued : (queued : List (Numbered T)) (x : T) (queue : List T) → bare_items queued ≡ x ∷ queue
      → (number : Number) × (rest : List (Numbered T)) × (queued ≡ (number, x) ∷ rest) × (bare_items rest ≡ queue)
  first_queued [] x queue is = absurd (cons≢nil (sym is))
  first_queued (e ∷ rest) x queue is = (e.0, rest, ap (λ y. (e.0, y) ∷ rest) (cons_head e.1 x (bare_items rest) queue is), cons_tail e.1 x (bare_items rest) queue is)

  pub none_queued : (queued : List (Numbered T)) → bare_items queued ≡ [] → queued ≡ []
  none_queued [] is = refl
  none_queued (e ∷ rest) is = absurd (cons≢nil is)
