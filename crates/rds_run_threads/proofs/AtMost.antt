-- How many numbers of a list are at most a given one, and how many numbers are accepted at most.
use Rattle.std.proofs.Common.{inl, inr, ℕ, zero, suc, ◌≤◌, ◌==◌, ◌&&◌, nat_lt, Bool, true, false, cond, List, [], ◌∷◌, ◌++◌, length, arith, length-append}
use Rattle.std.specs.List.{Contains}
use Rattle.std.proofs.lemmas.Bool.{cases_lt, cond-false, cond-true, le-ltb, lt-ltb}
use Rattle.std.proofs.lemmas.List.Elements.{Contains-append_left, Contains-push}
use Rattle.rds_model.specs.declared.entry.Entry.{Entry}
use Rattle.rds_model.specs.declared.entry.Entry.TheVariants.{Accept}
use Rattle.rds_model.specs.Pairs.{accepted_for}
use Rattle.rds_model.specs.Past.{accepted}

-- how many numbers of a list are at most this one
abbrev pub most_of : ℕ → List ℕ → ℕ
most_of m [] = 0
most_of m (y ∷ ys) = cond (nat_lt m y) (most_of m ys) (suc (most_of m ys))

one_at_most : (b : Bool) (n : ℕ) → cond b n (suc n) ≤ suc n
one_at_most true n = omega arith
one_at_most false n = omega arith

pub all_at_most : (m : ℕ) (ys : List ℕ) → most_of m ys ≤ length ys
all_at_most m [] = omega arith
all_at_most m (y ∷ ys) =
    let rest = all_at_most m ys in
    let this = one_at_most (nat_lt m y) (most_of m ys) in
    omega (arith, rest, this)

-- one number that counts or doesn't adds as much for a greater bound
one_grows : (m y few many : ℕ) → few ≤ many → cond (nat_lt m y) few (suc few) ≤ cond (nat_lt (suc m) y) many (suc many)
one_grows m y few many grows =
    elim (cases_lt (suc m) y) [
      | inl above ↦
          let here = cond-true (nat_lt (suc m) y) many (suc many) (lt-ltb (suc m) y above) in
          let there = cond-true (nat_lt m y) few (suc few) (lt-ltb m y (omega (arith, above))) in
          omega (arith, here, there, grows)
      | inr within ↦
          let here = cond-false (nat_lt (suc m) y) many (suc many) (le-ltb (suc m) y within) in
          let there = one_at_most (nat_lt m y) few in
          omega (arith, here, there, grows)
    ]

most_grows : (m : ℕ) (ys : List ℕ) → most_of m ys ≤ most_of (suc m) ys
most_grows m [] = omega arith
most_grows m (y ∷ ys) = one_grows m y (most_of m ys) (most_of (suc m) ys) (most_grows m ys)

-- the next number, where it is in the list, adds one
one_more : (m y few many : ℕ) → suc few ≤ many → suc (cond (nat_lt m y) few (suc few)) ≤ cond (nat_lt (suc m) y) many (suc many)
one_more m y few many more =
    elim (cases_lt (suc m) y) [
      | inl above ↦
          let here = cond-true (nat_lt (suc m) y) many (suc many) (lt-ltb (suc m) y above) in
          let there = cond-true (nat_lt m y) few (suc few) (lt-ltb m y (omega (arith, above))) in
          omega (arith, here, there, more)
      | inr within ↦
          let here = cond-false (nat_lt (suc m) y) many (suc many) (le-ltb (suc m) y within) in
          let there = one_at_most (nat_lt m y) few in
          omega (arith, here, there, more)
    ]

most_more : (m : ℕ) (ys : List ℕ) → Contains ys (suc m) → suc (most_of m ys) ≤ most_of (suc m) ys
most_more m [] (i, within, is) = absurd (omega (arith, within))
most_more m (y ∷ ys) (zero, within, is) =
    let less = cond-true (nat_lt m y) (most_of m ys) (suc (most_of m ys)) (lt-ltb m y (omega (arith, is))) in
    let more = cond-false (nat_lt (suc m) y) (most_of (suc m) ys) (suc (most_of (suc m) ys)) (le-ltb (suc m) y (omega (arith, is))) in
    let grows = most_grows m ys in
    omega (arith, less, more, grows)
most_more m (y ∷ ys) (suc i, within, is) =
    one_more m y (most_of m ys) (most_of (suc m) ys) (most_more m ys (i, omega (arith, within), is))

-- there are at most as many accepted numbers as there are numbers in a list that has them all
pub accepted_few : (sport dport : ℕ) (past : List Entry) (ys : List ℕ) → ((n : ℕ) → Contains (accepted_for sport dport past) n → Contains ys n) →
    length (accepted_for sport dport past) ≤ most_of (accepted past) ys
accepted_few sport dport [] ys each = omega arith
accepted_few sport dport (Accept slot from to payload ∷ past) ys each = go (accepted_few sport dport past ys) (from == sport && (to == dport)) each
  where
    go : (((n : ℕ) → Contains (accepted_for sport dport past) n → Contains ys n) → length (accepted_for sport dport past) ≤ most_of (accepted past) ys) → (b : Bool) →
        ((n : ℕ) → Contains (cond b (accepted_for sport dport past ++ suc (accepted past) ∷ []) (accepted_for sport dport past)) n → Contains ys n) →
        length (cond b (accepted_for sport dport past ++ suc (accepted past) ∷ []) (accepted_for sport dport past)) ≤ most_of (suc (accepted past)) ys
    go earlier true all =
        let numbers = accepted_for sport dport past in
        let rest = earlier (λ n has. all n (Contains-append_left numbers (suc (accepted past) ∷ []) n has)) in
        let next = most_more (accepted past) ys (all (suc (accepted past)) (Contains-push numbers (suc (accepted past)))) in
        let long = length-append numbers (suc (accepted past) ∷ []) in
        omega (arith, rest, next, long)
    go earlier false all =
        let rest = earlier all in
        let grows = most_grows (accepted past) ys in
        omega (arith, rest, grows)
accepted_few sport dport (_ ∷ past) ys each = accepted_few sport dport past ys each
