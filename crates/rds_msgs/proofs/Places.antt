-- Places on lists, split at one of them.
use Rattle.std.proofs.Common.{◌≡◌, ◌≤◌, ◌+◌, inl, inr, ℕ, true, false, Option, Some, None, List, [], ◌∷◌, ◌++◌, arith, refl, sym, ap, ◌∙◌, subst}
use Rattle.std.proofs.lemmas.Bool.{cases_eq, cases_Bool, eq-eqb, ne_eqb, eqb-true}
use Rattle.std.proofs.lemmas.Option.{same_Some, none-some}
use Rattle.std.specs.List.{AllByRecursion}
use Rattle.std.specs.Option.{IfSome}
use Rattle.rds_msgs_lists.specs.Lists.{Place, IsOn, IsDistinct, first_index, indexes, is_of, of_socket, times}

-- how often an index stands in places, part by part
pub times_first : (k : ℕ) (xs : List ℕ) → times k (k ∷ xs) ≡ 1 + times k xs
times_first k xs = let t = eq-eqb k k refl in grind arith

pub times_other : (k x : ℕ) (xs : List ℕ) → (x ≡ k → ⊥) → times k (x ∷ xs) ≡ times k xs
times_other k x xs h = let t = ne_eqb x k h in grind arith

pub times_split : (k : ℕ) (before : List Place) (rest : List Place) → times k (indexes (before ++ rest)) ≡ times k (indexes before) + times k (indexes rest)
times_split k [] rest = omega arith
times_split k (b ∷ before) rest = omega (arith, times_split k before rest)

-- where an index is on the lists, it has a place
pub record HasPlace (xs : List Place) (k : ℕ) : Type 0 where
  pub before : List Place
  pub place : Place
  pub rest : List Place
  pub whole : xs ≡ before ++ place ∷ rest
  pub its : place.index ≡ k

pub has_place : (xs : List Place) (k : ℕ) → IsOn xs k → HasPlace xs k
has_place [] k h = absurd (omega arith)
has_place (p ∷ xs) k h =
    elim (cases_eq p.index k) [
      | inl e ↦ record { before = []; place = p; rest = xs; whole = refl; its = e }
      | inr ne ↦
          let t = times_other k p.index (indexes xs) ne in
          let f = has_place xs k (omega arith) in
          record { before = p ∷ f.before; place = f.place; rest = f.rest; whole = ap (λ (ps : List Place). p ∷ ps) f.whole; its = f.its }
    ]

pub first_on : (xs : List Place) (k : ℕ) → first_index xs ≡ Some k → IsOn xs k
first_on [] k e = absurd (none-some k e)
first_on (p ∷ xs) k e = let i : p.index ≡ k = same_Some p.index k e in rw i (omega (arith, times_first k (indexes xs)))

-- of places that are distinct, one place stands in none of the two others
pub apart : (before : List Place) (p : Place) (rest : List Place) → IsDistinct (before ++ p ∷ rest) → (times p.index (indexes before) ≡ 0) × (times p.index (indexes rest) ≡ 0)
apart before p rest d =
    let a = d p.index in
    let b = times_split p.index before (p ∷ rest) in
    let c = times_first p.index (indexes rest) in
    (omega arith, omega arith)

-- without one of them the others stay on the lists, distinct
pub times_off : (k : ℕ) (before : List Place) (p : Place) (rest : List Place) → times k (indexes (before ++ p ∷ rest)) ≡ times k (indexes (before ++ rest)) + times k (p.index ∷ [])
times_off k before p rest = omega (arith, times_split k before (p ∷ rest), times_split k before rest)

pub distinct_off : (before : List Place) (p : Place) (rest : List Place) → IsDistinct (before ++ p ∷ rest) → IsDistinct (before ++ rest)
distinct_off before p rest d k = let a = d k in omega (arith, times_off k before p rest)

-- what holds of all places of a list holds of those of its parts
pub all_parts : (P : Place → Type 0) (before rest : List Place) → AllByRecursion P (before ++ rest) → AllByRecursion P before × AllByRecursion P rest
all_parts P [] rest h = (tt, h)
all_parts P (b ∷ before) rest h = let r = all_parts P before rest h.1 in ((h.0, r.0), r.1)

pub all_whole : (P : Place → Type 0) (before rest : List Place) → AllByRecursion P before → AllByRecursion P rest → AllByRecursion P (before ++ rest)
all_whole P [] rest h i = i
all_whole P (b ∷ before) rest h i = (h.0, all_whole P before rest h.1 i)

-- a place is its socket's, or not
pub of_own : (socket : ℕ) (p : Place) (xs : List Place) → is_of socket p ≡ true → of_socket socket (p ∷ xs) ≡ p ∷ of_socket socket xs
of_own socket p xs t = rw t refl

pub of_other : (socket : ℕ) (p : Place) (xs : List Place) → is_of socket p ≡ false → of_socket socket (p ∷ xs) ≡ of_socket socket xs
of_other socket p xs f = rw f refl

-- the first place of a socket, with those before it, none of which is the socket's
pub record FirstOf (socket : ℕ) (xs : List Place) (k : ℕ) : Type 0 where
  pub before : List Place
  pub place : Place
  pub rest : List Place
  pub whole : xs ≡ before ++ place ∷ rest
  pub its : place.index ≡ k
  pub owner : place.socket ≡ socket
  pub none : of_socket socket before ≡ []
  pub own : of_socket socket xs ≡ place ∷ of_socket socket rest

pub first_of_is : (socket : ℕ) (xs : List Place) (k : ℕ) → Some k ≡ first_index (of_socket socket xs) → FirstOf socket xs k
first_of_is socket [] k e = absurd (none-some k (sym e))
first_of_is socket (p ∷ xs) k e =
    elim (cases_Bool (is_of socket p)) [
      | inl t ↦
          let o = of_own socket p xs t in
          let i : Some k ≡ Some p.index = e ∙ ap first_index o in
          record { before = []; place = p; rest = xs; whole = refl; its = sym (same_Some k p.index i); owner = eqb-true p.socket socket t; none = refl; own = o }
      | inr f ↦
          let o = of_other socket p xs f in
          let r = first_of_is socket xs k (e ∙ ap first_index o) in
          let n = of_other socket p r.before f in
          record {
            before = p ∷ r.before;
            place = r.place;
            rest = r.rest;
            whole = ap (λ (ps : List Place). p ∷ ps) r.whole;
            its = r.its;
            owner = r.owner;
            none = n ∙ r.none;
            own = o ∙ r.own;
          }
    ]

-- where a socket has no first place, it has none
pub none_of : (xs : List Place) → None ≡ first_index xs → xs ≡ []
none_of [] e = refl
none_of (p ∷ xs) e = absurd (none-some p.index e)

pub if_some : (r : Option ℕ) (P : ℕ → Type 0) → ((k : ℕ) → r ≡ Some k → P k) → IfSome r P
if_some None P h = tt
if_some (Some k) P h = h k refl

-- an index of a socket's is one of all
pub own_times : (socket k : ℕ) (xs : List Place) → times k (indexes (of_socket socket xs)) ≤ times k (indexes xs)
own_times socket k [] = omega arith
own_times socket k (p ∷ xs) = let h = own_times socket k xs in grind arith

pub first_of_on : (socket : ℕ) (before rest : List Place) → IfSome (first_index (of_socket socket rest)) (IsOn (before ++ rest))
first_of_on socket before rest =
    if_some (first_index (of_socket socket rest)) (IsOn (before ++ rest))
    (λ k e. let i = first_on (of_socket socket rest) k e in omega (arith, own_times socket k rest, times_split k before rest))

pub none_is : (o : Option ℕ) → ((k : ℕ) → o ≡ Some k → ⊥) → o ≡ None
none_is None h = refl
none_is (Some k) h = absurd (h k refl)

pub some_if : (r : Option ℕ) (P : ℕ → Type 0) (k : ℕ) → IfSome r P → r ≡ Some k → P k
some_if r P k h e = subst (λ (o : Option ℕ). IfSome o P) e h

pub not_true : false ≡ true → ⊥
not_true e = grind arith
