-- Which indexes are on the lists, by their places.
use Rattle.std.proofs.Common.{◌≡◌, ◌≤◌, inl, inr, ℕ, Option, Some, None, List, [], ◌∷◌, ◌++◌, arith, refl, sym, ap, ◌∙◌}
use Rattle.std.specs.Option.{IfSome}
use Rattle.std.proofs.lemmas.Bool.{cases_eq}
use Rattle.std.proofs.lemmas.Option.{same_Some, none-some}
use Rattle.rds_msgs_lists.specs.Lists.{Place, ListsView, AtEach, IsOn, first_index, indexes, of_socket, times}
use Rattle.rds_msgs_lists.proofs.Counts.{times_first, times_other}

pub first_on : (xs : List Place) (k : ℕ) → first_index xs ≡ Some k → IsOn xs k
first_on [] k e = absurd (none-some k e)
first_on (p ∷ xs) k e = let i : p.index ≡ k = same_Some p.index k e in rw i (omega (arith, times_first k (indexes xs)))

pub own_times : (s k : ℕ) (xs : List Place) → times k (indexes (of_socket s xs)) ≤ times k (indexes xs)
own_times s k [] = omega arith
own_times s k (p ∷ xs) = let h = own_times s k xs in grind arith

pub rest_on : (before : List Place) (p : Place) (rest : List Place) (k : ℕ) → IsOn rest k → IsOn (before ++ p ∷ rest) k
rest_on [] p rest k h = omega arith
rest_on (b ∷ before) p rest k h = let i = rest_on before p rest k h in omega arith

-- where an index is on the lists, it has a place
pub record HasPlace (xs : List Place) (k : ℕ) : Type 0 where
  pub before : List Place
  pub place : Place
  pub rest : List Place
  pub whole : xs ≡ before ++ place ∷ rest
  pub its : place.index ≡ k

pub has_place : (xs : List Place) (k : ℕ) → IsOn xs k → HasPlace xs k
has_place [] k h = absurd (omega arith)
has_place (p ∷ xs) k h =
    elim (cases_eq p.index k) [
      | inl e ↦ record { before = []; place = p; rest = xs; whole = refl; its = e }
      | inr ne ↦
          let t = times_other k p.index (indexes xs) ne in
          let f = has_place xs k (omega arith) in
          record { before = p ∷ f.before; place = f.place; rest = f.rest; whole = ap (λ (ps : List Place). p ∷ ps) f.whole; its = f.its }
    ]

pub if_some : (r : Option ℕ) (P : ℕ → Type 0) → ((k : ℕ) → r ≡ Some k → P k) → IfSome r P
if_some None P h = tt
if_some (Some k) P h = h k refl

pub first_if : (xs : List Place) (r : Option ℕ) → r ≡ first_index xs → IfSome r (IsOn xs)
first_if xs r e = if_some r (IsOn xs) (λ k f. first_on xs k (sym e ∙ f))

pub first_of_if : (xs : List Place) (s : ℕ) (r : Option ℕ) → r ≡ first_index (of_socket s xs) → IfSome r (IsOn xs)
first_of_if xs s r e = if_some r (IsOn xs) (λ k f. let i = first_on (of_socket s xs) k (sym e ∙ f) in let t = own_times s k xs in omega arith)

pub after_if : (xs : List Place) (j : ℕ) (r : Option ℕ) → IsOn xs j → AtEach xs j (λ before p rest. r ≡ first_index rest) → IfSome r (IsOn xs)
after_if xs j r on h =
    let c = has_place xs j on in
    let e = h c.before c.place c.rest c.whole c.its in
    if_some r (IsOn xs) (λ k f. rw c.whole (rest_on c.before c.place c.rest k (first_on c.rest k (sym e ∙ f))))

pub after_of_if : (xs : List Place) (j : ℕ) (r : Option ℕ) → IsOn xs j → AtEach xs j (λ before p rest. r ≡ first_index (of_socket p.socket rest)) → IfSome r (IsOn xs)
after_of_if xs j r on h =
    let c = has_place xs j on in
    let e = h c.before c.place c.rest c.whole c.its in
    if_some r (IsOn xs)
    (λ k f.
    let i = first_on (of_socket c.place.socket c.rest) k (sym e ∙ f) in
    let t = own_times c.place.socket k c.rest in
    rw c.whole (rest_on c.before c.place c.rest k (omega arith)))

-- a change of the places changes only them
pub only_places : (v w : ListsView) (places : List Place) → w ≡ record v { places = places } → w ≡ record v { places = w.places }
only_places v w places e = e ∙ ap (λ (p : List Place). record v { places = p }) (sym (ap (λ (u : ListsView). u.places) e))
