-- The order of port pairs is total, and a list that rises by it is known by its members.
use Rattle.std.proofs.Common.{◌≡◌, ◌<◌, inl, inr, ℕ, Bool, true, false, not, ◌&&◌, ◌||◌, ◌==◌, nat_lt, if◌then◌else◌, cond, List, [], ◌∷◌, arith, refl, sym, ap, ◌∙◌, subst}
use Rattle.std.specs.Bool.{⊤}
use Rattle.std.specs.Ordering.{is_lt, ordering_then, nat_cmp}
use Rattle.std.specs.declared.cmp.Ordering.{Ordering}
use Rattle.std.specs.declared.cmp.Ordering.TheVariants.{Less, Equal, Greater}
use Rattle.std.specs.List.{list_any}
use Rattle.std.proofs.lemmas.Bool.{true≢false, cases_order, lt-ltb, le-ltb, ltb-true, ne_eqb, eq-eqb, eqb-true, and_parts}
use Rattle.rds_text.specs.Report.{Group, is_before, with_group, ascending}
use Rattle.rds_report.specs.ItemReport.{is_same}

-- by two numbers, and where they are equal by p
abbrev pub lex : ℕ → ℕ → Bool → Bool
lex x y p = if not (x == y) then nat_lt x y else p

lex_less : (x y : ℕ) (p : Bool) → x < y → lex x y p ≡ true
lex_less x y p less = ap (λ (b : Bool). if not b then nat_lt x y else p) (ne_eqb x y (λ e. omega arith)) ∙ lt-ltb x y less

pub lex_more : (x y : ℕ) (p : Bool) → y < x → lex x y p ≡ false
lex_more x y p more = ap (λ (b : Bool). if not b then nat_lt x y else p) (ne_eqb x y (λ e. omega arith)) ∙ le-ltb x y (omega arith)

lex_same : (x y : ℕ) (p : Bool) → x ≡ y → lex x y p ≡ p
lex_same x y p is = ap (λ (b : Bool). if not b then nat_lt x y else p) (eq-eqb x y is)

and_false : (x : Bool) → (x && false) ≡ false
and_false true = refl
and_false false = refl

lex_ties : (x y : ℕ) (p q r : Bool) → (not p && not q) ≡ r → (not (lex x y p) && not (lex y x q)) ≡ ((x == y) && r)
lex_ties x y p q r h =
    elim (cases_order x y) [
      | inl same ↦
          ap (λ (b : Bool). not b && not (lex y x q)) (lex_same x y p same)
          ∙ ap (λ (b : Bool). not p && not b) (lex_same y x q (sym same)) ∙ h
          ∙ ap (λ (b : Bool). b && r) (sym (eq-eqb x y same))
      | inr (inl less) ↦
          ap (λ (b : Bool). not b && not (lex y x q)) (lex_less x y p less)
          ∙ ap (λ (b : Bool). b && r) (sym (ne_eqb x y (λ e. omega arith)))
      | inr (inr more) ↦
          ap (λ (b : Bool). not (lex x y p) && not b) (lex_less y x q more)
          ∙ and_false (not (lex x y p))
          ∙ ap (λ (b : Bool). b && r) (sym (ne_eqb x y (λ e. omega arith)))
    ]

less_ties : (x y : ℕ) → (not (nat_lt x y) && not (nat_lt y x)) ≡ (x == y)
less_ties x y =
    elim (cases_order x y) [
      | inl same ↦
          ap (λ (b : Bool). not b && not (nat_lt y x)) (le-ltb x y (omega (arith, same)))
          ∙ ap not (le-ltb y x (omega (arith, same))) ∙ sym (eq-eqb x y same)
      | inr (inl less) ↦
          ap (λ (b : Bool). not b && not (nat_lt y x)) (lt-ltb x y less) ∙ sym (ne_eqb x y (λ e. omega arith))
      | inr (inr more) ↦
          ap (λ (b : Bool). not (nat_lt x y) && not b) (lt-ltb y x more) ∙ and_false (not (nat_lt x y))
          ∙ sym (ne_eqb x y (λ e. omega arith))
    ]

and_assoc' : (a b c d : Bool) → (a && (b && (c && d))) ≡ ((a && b) && (c && d))
and_assoc' true b c d = refl
and_assoc' false b c d = refl

-- neither stands before the other where they are one
pub ties_same : (a b : Group) → (not (is_before a b) && not (is_before b a)) ≡ is_same a b
ties_same a b =
    lex_ties a.to b.to _ _ _ (lex_ties a.dport b.dport _ _ _ (lex_ties a.from b.from _ _ _ (less_ties a.sport b.sport)))
    ∙ and_assoc' (a.to == b.to) (a.dport == b.dport) (a.from == b.from) (a.sport == b.sport)

lex_trans : (x y z : ℕ) (p q r : Bool) → (p ≡ true → q ≡ true → r ≡ true) → lex x y p ≡ true → lex y z q ≡ true → lex x z r ≡ true
lex_trans x y z p q r h one two =
    elim (cases_order x y) [
      | inl same ↦ elim (cases_order y z) [
        | inl same' ↦ lex_same x z r (same ∙ same') ∙ h (sym (lex_same x y p same) ∙ one) (sym (lex_same y z q same') ∙ two)
        | inr (inl less) ↦ lex_less x z r (omega (arith, same, less))
        | inr (inr more) ↦ absurd (true≢false (sym two ∙ lex_more y z q more))
      ]
      | inr (inl less) ↦ elim (cases_order y z) [
        | inl same' ↦ lex_less x z r (omega (arith, same', less))
        | inr (inl less') ↦ lex_less x z r (omega (arith, less', less))
        | inr (inr more) ↦ absurd (true≢false (sym two ∙ lex_more y z q more))
      ]
      | inr (inr more) ↦ absurd (true≢false (sym one ∙ lex_more x y p more))
    ]

less_trans : (x y z : ℕ) → nat_lt x y ≡ true → nat_lt y z ≡ true → nat_lt x z ≡ true
less_trans x y z one two = let a = ltb-true x y one in let b = ltb-true y z two in lt-ltb x z (omega (arith, a, b))

pub before_trans : (a b c : Group) → is_before a b ≡ true → is_before b c ≡ true → is_before a c ≡ true
before_trans a b c =
    lex_trans a.to b.to c.to _ _ _ (lex_trans a.dport b.dport c.dport _ _ _ (lex_trans a.from b.from c.from _ _ _ (less_trans a.sport b.sport c.sport)))

lex_itself : (x : ℕ) (p : Bool) → p ≡ false → lex x x p ≡ false
lex_itself x p h = lex_same x x p refl ∙ h

pub before_itself : (a : Group) → is_before a a ≡ false
before_itself a =
    lex_itself a.to _ (lex_itself a.dport _ (lex_itself a.from _ (le-ltb a.sport a.sport (omega arith))))

-- a pair
abbrev pair : (to dport from sport : ℕ) → Group
pair to dport from sport = record { to = to; dport = dport; from = from; sport = sport }

-- two that are one
pub same_is : (a b : Group) → is_same a b ≡ true → a ≡ b
same_is a b is =
    let front = and_parts ((a.to == b.to) && (a.dport == b.dport)) ((a.from == b.from) && (a.sport == b.sport)) is in
    let one = and_parts (a.to == b.to) (a.dport == b.dport) front.0 in
    let two = and_parts (a.from == b.from) (a.sport == b.sport) front.1 in
    all a.to b.to a.dport b.dport a.from b.from a.sport b.sport (eqb-true a.to b.to one.0) (eqb-true a.dport b.dport one.1) (eqb-true a.from b.from two.0) (eqb-true a.sport b.sport two.1)
  where
    all : (t t' d d' f f' s s' : ℕ) → t ≡ t' → d ≡ d' → f ≡ f' → s ≡ s' → pair t d f s ≡ pair t' d' f' s'
    all t t' d d' f f' s s' a b c e = cc

pub same_itself : (a : Group) → is_same a a ≡ true
same_itself a =
    sym (ties_same a a) ∙ ap (λ (x : Bool). not x && not x) (before_itself a)

-- one of two that are not one stands before the other
pub before_either : (a b : Group) → is_before a b ≡ false → is_before b a ≡ false → is_same a b ≡ true
before_either a b no' no'' =
    sym (ties_same a b) ∙ ap (λ (x : Bool). not x && not (is_before b a)) no' ∙ ap not no''

pub before_differs : (a b : Group) → is_before a b ≡ true → is_same a b ≡ false
before_differs a b less = sym (ties_same a b) ∙ ap (λ (x : Bool). not x && not (is_before b a)) less

pub same_sym : (a b : Group) → is_same a b ≡ is_same b a
same_sym a b = sym (ties_same a b) ∙ swap (not (is_before a b)) (not (is_before b a)) ∙ ties_same b a
  where
    swap : (x y : Bool) → (x && y) ≡ (y && x)
    swap true true = refl
    swap true false = refl
    swap false true = refl
    swap false false = refl

-- the groups of a list rise

abbrev pub Above : Group → List Group → Type 0
Above a [] = ⊤
Above a (b ∷ l) = (is_before a b ≡ true) × Above a l

abbrev pub Rising : List Group → Type 0
Rising [] = ⊤
Rising (a ∷ l) = Above a l × Rising l

pub above_all : (a b : Group) (l : List Group) → is_before a b ≡ true → Above b l → Above a l
above_all a b [] less h = h
above_all a b (c ∷ l) less h = (before_trans a b c less h.0, above_all a b l less h.1)

-- a group that is in a list
abbrev pub has : Group → List Group → Bool
has g l = list_any (is_same g) l

pub above_lacks : (a : Group) (l : List Group) → Above a l → has a l ≡ false
above_lacks a [] h = refl
above_lacks a (b ∷ l) h = ap (λ (x : Bool). x || has a l) (before_differs a b h.0) ∙ above_lacks a l h.1

or_swap : (x y z : Bool) → (x || (y || z)) ≡ (y || (x || z))
or_swap true true z = refl
or_swap true false z = refl
or_swap false true z = refl
or_swap false false z = refl

-- one more group in its place
pub has_with : (g a : Group) (l : List Group) → has g (with_group a l) ≡ (is_same g a || has g l)
has_with g a [] = refl
has_with g a (b ∷ l) = go (is_before a b) (is_before b a) refl refl (has_with g a l)
  where
    go : (x y : Bool) → is_before a b ≡ x → is_before b a ≡ y → has g (with_group a l) ≡ (is_same g a || has g l) →
        has g (with_group a (b ∷ l)) ≡ (is_same g a || (is_same g b || has g l))
    go true y is is' ih = ap (λ (x : Bool). has g (if x then a ∷ b ∷ l else (if is_before b a then b ∷ with_group a l else b ∷ l))) is
    go false true is is' ih =
        ap (λ (x : Bool). has g (if x then a ∷ b ∷ l else (if is_before b a then b ∷ with_group a l else b ∷ l))) is
        ∙ ap (λ (x : Bool). has g (if x then b ∷ with_group a l else b ∷ l)) is'
        ∙ ap (λ (x : Bool). is_same g b || x) ih ∙ or_swap (is_same g b) (is_same g a) (has g l)
    go false false is is' ih =
        let one : a ≡ b = same_is a b (before_either a b is is') in
        ap (λ (x : Bool). has g (if x then a ∷ b ∷ l else (if is_before b a then b ∷ with_group a l else b ∷ l))) is
        ∙ ap (λ (x : Bool). has g (if x then b ∷ with_group a l else b ∷ l)) is'
        ∙ twice (is_same g b) (has g l) ∙ ap (λ (c : Group). is_same g c || (is_same g b || has g l)) (sym one)
      where
        twice : (x z : Bool) → (x || z) ≡ (x || (x || z))
        twice true z = refl
        twice false z = refl

above_with : (c a : Group) (l : List Group) → is_before c a ≡ true → Above c l → Above c (with_group a l)
above_with c a [] less h = (less, h)
above_with c a (b ∷ l) less h = go (is_before a b) (is_before b a) refl refl (above_with c a l less h.1)
  where
    go : (x y : Bool) → is_before a b ≡ x → is_before b a ≡ y → Above c (with_group a l) → Above c (with_group a (b ∷ l))
    go true y is is' ih = subst (λ (x : Bool). Above c (if x then a ∷ b ∷ l else (if is_before b a then b ∷ with_group a l else b ∷ l))) (sym is) (less, h)
    go false true is is' ih =
        subst (λ (x : Bool). Above c (if x then a ∷ b ∷ l else (if is_before b a then b ∷ with_group a l else b ∷ l))) (sym is)
        (subst (λ (x : Bool). Above c (if x then b ∷ with_group a l else b ∷ l)) (sym is') (h.0, ih))
    go false false is is' ih =
        subst (λ (x : Bool). Above c (if x then a ∷ b ∷ l else (if is_before b a then b ∷ with_group a l else b ∷ l))) (sym is)
        (subst (λ (x : Bool). Above c (if x then b ∷ with_group a l else b ∷ l)) (sym is') h)

pub rising_with : (a : Group) (l : List Group) → Rising l → Rising (with_group a l)
rising_with a [] h = (h, h)
rising_with a (b ∷ l) h = go (is_before a b) (is_before b a) refl refl (rising_with a l h.1)
  where
    go : (x y : Bool) → is_before a b ≡ x → is_before b a ≡ y → Rising (with_group a l) → Rising (with_group a (b ∷ l))
    go true y is is' ih =
        subst (λ (x : Bool). Rising (if x then a ∷ b ∷ l else (if is_before b a then b ∷ with_group a l else b ∷ l))) (sym is)
        ((is, above_all a b l is h.0), h)
    go false true is is' ih =
        subst (λ (x : Bool). Rising (if x then a ∷ b ∷ l else (if is_before b a then b ∷ with_group a l else b ∷ l))) (sym is)
        (subst (λ (x : Bool). Rising (if x then b ∷ with_group a l else b ∷ l)) (sym is') (above_with b a l is' h.0, ih))
    go false false is is' ih =
        subst (λ (x : Bool). Rising (if x then a ∷ b ∷ l else (if is_before b a then b ∷ with_group a l else b ∷ l))) (sym is)
        (subst (λ (x : Bool). Rising (if x then b ∷ with_group a l else b ∷ l)) (sym is') h)

pub rising_ascending : (l : List Group) → Rising (ascending l)
rising_ascending [] = tt
rising_ascending (a ∷ l) = rising_with a (ascending l) (rising_ascending l)

pub has_ascending : (g : Group) (l : List Group) → has g (ascending l) ≡ has g l
has_ascending g [] = refl
has_ascending g (a ∷ l) = has_with g a (ascending l) ∙ ap (λ (x : Bool). is_same g a || x) (has_ascending g l)

-- lists that rise and have the same members are one
pub rising_one : (l m : List Group) → Rising l → Rising m → ((g : Group) → has g l ≡ has g m) → l ≡ m
rising_one [] [] r s h = refl
rising_one [] (b ∷ m) r s h = absurd (true≢false (sym (h b ∙ ap (λ (x : Bool). x || has b m) (same_itself b))))
rising_one (a ∷ l) [] r s h = absurd (true≢false (sym (ap (λ (x : Bool). x || has a l) (same_itself a)) ∙ h a))
rising_one (a ∷ l) (b ∷ m) r s h =
    go (is_before a b) (is_before b a) refl refl (rising_one l m r.1 s.1)
  where
    lacks : (c d : Group) (k : List Group) → is_before c d ≡ true → Above d k → has c (d ∷ k) ≡ false
    lacks c d k less up = above_lacks c (d ∷ k) (less, above_all c d k less up)

    rest : a ≡ b → (g : Group) → (x : Bool) → is_same g a ≡ x → has g l ≡ has g m
    rest one g true is =
        let this : g ≡ a = same_is g a is in
        ap (λ (c : Group). has c l) this ∙ above_lacks a l r.0 ∙ sym (above_lacks b m s.0) ∙ ap (λ (c : Group). has c m) (sym (this ∙ one))
    rest one g false is =
        ap (λ (x : Bool). x || has g l) (sym is) ∙ h g
        ∙ ap (λ (x : Bool). x || has g m) (ap (is_same g) (sym one) ∙ is)

    go : (x y : Bool) → is_before a b ≡ x → is_before b a ≡ y → (((g : Group) → has g l ≡ has g m) → l ≡ m) → a ∷ l ≡ b ∷ m
    go true y is is' ih = absurd (true≢false (sym (ap (λ (x : Bool). x || has a l) (same_itself a)) ∙ h a ∙ lacks a b m is s.0))
    go false true is is' ih = absurd (true≢false (sym (ap (λ (x : Bool). x || has b m) (same_itself b)) ∙ sym (h b) ∙ lacks b a l is' r.0))
    go false false is is' ih =
        let one : a ≡ b = same_is a b (before_either a b is is') in
        ap (λ (c : Group). c ∷ l) one ∙ ap (λ (k : List Group). b ∷ k) (ih (λ g. rest one g (is_same g a) refl))

-- what the derived order of the program's groups says
cmp_lex : (x y : ℕ) (o : Ordering) (p : Bool) → is_lt o ≡ p → is_lt (ordering_then (nat_cmp x y) o) ≡ lex x y p
cmp_lex x y o p h =
    elim (cases_order x y) [
      | inl same ↦
          ap (λ (b : Bool). is_lt (ordering_then (cond b Less (cond (x == y) Equal Greater)) o)) (le-ltb x y (omega (arith, same)))
          ∙ ap (λ (b : Bool). is_lt (ordering_then (cond b Equal Greater) o)) (eq-eqb x y same) ∙ h ∙ sym (lex_same x y p same)
      | inr (inl less) ↦
          ap (λ (b : Bool). is_lt (ordering_then (cond b Less (cond (x == y) Equal Greater)) o)) (lt-ltb x y less) ∙ sym (lex_less x y p less)
      | inr (inr more) ↦
          ap (λ (b : Bool). is_lt (ordering_then (cond b Less (cond (x == y) Equal Greater)) o)) (le-ltb x y (omega arith))
          ∙ ap (λ (b : Bool). is_lt (ordering_then (cond b Equal Greater) o)) (ne_eqb x y (λ e. omega arith)) ∙ sym (lex_more x y p more)
    ]

cmp_less : (x y : ℕ) → is_lt (nat_cmp x y) ≡ nat_lt x y
cmp_less x y =
    elim (cases_order x y) [
      | inl same ↦
          ap (λ (b : Bool). is_lt (cond b Less (cond (x == y) Equal Greater))) (le-ltb x y (omega (arith, same)))
          ∙ ap (λ (b : Bool). is_lt (cond b Equal Greater)) (eq-eqb x y same) ∙ sym (le-ltb x y (omega (arith, same)))
      | inr (inl less) ↦
          ap (λ (b : Bool). is_lt (cond b Less (cond (x == y) Equal Greater))) (lt-ltb x y less) ∙ sym (lt-ltb x y less)
      | inr (inr more) ↦
          ap (λ (b : Bool). is_lt (cond b Less (cond (x == y) Equal Greater))) (le-ltb x y (omega arith))
          ∙ ap (λ (b : Bool). is_lt (cond b Equal Greater)) (ne_eqb x y (λ e. omega arith)) ∙ sym (le-ltb x y (omega arith))
    ]

abbrev pub less_by : Group → Group → Bool
less_by a b =
    is_lt (ordering_then (nat_cmp a.to b.to) (ordering_then (nat_cmp a.dport b.dport) (ordering_then (nat_cmp a.from b.from) (nat_cmp a.sport b.sport))))

pub cmp_before : (a b : Group) → less_by a b ≡ is_before a b
cmp_before a b = cmp_lex a.to b.to _ _ (cmp_lex a.dport b.dport _ _ (cmp_lex a.from b.from _ _ (cmp_less a.sport b.sport)))

pub ties_by : (a b : Group) → (not (less_by a b) && not (less_by b a)) ≡ is_same a b
ties_by a b =
    ap (λ (x : Bool). not x && not (less_by b a)) (cmp_before a b)
    ∙ ap (λ (x : Bool). not (is_before a b) && not x) (cmp_before b a) ∙ ties_same a b

-- what doesn't stand before b, which doesn't stand before a, doesn't stand before a
pub not_before_trans : (a b c : Group) → is_before b a ≡ false → is_before c b ≡ false → is_before c a ≡ false
not_before_trans a b c one two = go (is_before c a) (is_before a b) refl refl
  where
    go : (x y : Bool) → is_before c a ≡ x → is_before a b ≡ y → is_before c a ≡ false
    go false y is is' = is
    go true true is is' = absurd (true≢false (sym (before_trans c a b is is') ∙ two))
    go true false is is' = absurd (true≢false (sym is ∙ ap (is_before c) (same_is a b (before_either a b is' one)) ∙ two))

-- and what stands before b stands before c
pub before_then_not : (a b c : Group) → is_before a b ≡ true → is_before c b ≡ false → is_before a c ≡ true
before_then_not a b c less two = go (is_before b c) refl
  where
    go : (x : Bool) → is_before b c ≡ x → is_before a c ≡ true
    go true is = before_trans a b c less is
    go false is = ap (is_before a) (sym (same_is b c (before_either b c is two))) ∙ less
