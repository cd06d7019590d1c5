-- The value of decimal digits.
use Rattle.std.proofs.Common.{◌≡◌, ℕ, ◌+◌, ◌-◌, ◌*◌, ◌^◌, ◌<◌, ◌≤◌, true, List, [], ◌∷◌, length, take, get_or, refl, sym, ap, ◌∙◌, arith, lit<}
use Rattle.std.specs.List.{list_all}
use Rattle.std.specs.Char.{is_ascii_digit, digit_value}
use Rattle.std.specs.Str.Parse.{AllDigits, digits_value}
use Rattle.std.proofs.Math.Nat.{pow-le-pow_right}
use Rattle.std.proofs.lemmas.Bool.{and_parts, and_from, leb-true}
use Rattle.std.proofs.lemmas.Bool.Decides.{nat_tests}
use Rattle.std.proofs.lemmas.Int.Digits.{digits_value-lt, digits_value_more}
use Rattle.std.proofs.lemmas.List.{length-take}
use Rattle.std.proofs.lemmas.List.Folds.{list_all_more}

-- a decimal digit, and its value
pub record IsDigit (c : ℕ) : Type 0 where
  pub low : 48 ≤ c
  pub high : c ≤ 57
  pub value : digit_value c ≡ c - 48

pub digit_is : (c : ℕ) → is_ascii_digit c ≡ true → IsDigit c
digit_is c e =
    let parts = and_parts _ _ e in
    let low : 48 ≤ c = leb-true _ _ parts.0 in
    let high : c ≤ 57 = leb-true _ _ parts.1 in
    record { low = low; high = high; value = grind (arith, nat_tests) }

pub is_digit : (c : ℕ) → digit_value c < 10 → is_ascii_digit c ≡ true
is_digit c lt = grind (arith, nat_tests)

pub all_digits : (w : List ℕ) → list_all is_ascii_digit w ≡ true → AllDigits 10 w
all_digits [] e = tt
all_digits (c ∷ w) e =
    let parts = and_parts _ _ e in
    let d = digit_is c parts.0 in
    (omega arith, all_digits w parts.1)

pub are_digits : (w : List ℕ) → AllDigits 10 w → list_all is_ascii_digit w ≡ true
are_digits [] h = refl
are_digits (c ∷ w) h = and_from _ _ (is_digit c h.0) (are_digits w h.1)

-- the value of fewer than ten digits stays below ten to the ninth
pub value_below : (w : List ℕ) (i : ℕ) → list_all is_ascii_digit (take i w) ≡ true → i < 10 → digits_value 10 (take i w) < 1000000000
value_below w i e lt =
    let b = digits_value-lt 10 (take i w) (all_digits (take i w) e) in
    let l = length-take i w in
    let p : 10 ^ length (take i w) ≤ 10 ^ 9 = pow-le-pow_right (lit< tt) {i = length (take i w)} {j = 9} (omega (arith, l)) in
    omega (arith, b, p)

-- one digit more
pub value_more : (w : List ℕ) (i d : ℕ) → is_ascii_digit (get_or w i 0) ≡ true → i < length w → d ≡ get_or w i 0 - 48 → digits_value 10 (take i w) * 10 + d ≡ digits_value 10 (take (i + 1) w)
value_more w i d e lt d-is =
    let one = digit_is (get_or w i 0) e in
    sym (digits_value_more 10 w i lt ∙ ap (λ (x : ℕ). digits_value 10 (take i w) * 10 + x) (one.value ∙ sym d-is))

-- the digits so far and one more
pub all_more : (w : List ℕ) (i : ℕ) → list_all is_ascii_digit (take i w) ≡ true → is_ascii_digit (get_or w i 0) ≡ true → i < length w → list_all is_ascii_digit (take (i + 1) w) ≡ true
all_more w i all one lt = list_all_more is_ascii_digit w i 0 lt ∙ and_from _ _ all one
