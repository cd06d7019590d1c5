-- Words that are numbers in decimal digits.
use Rattle.std.proofs.Common.{◌≡◌, ◌≤◌, ◌<◌, ◌^◌, ℕ, zero, suc, List, Option, Some, None, Result, Ok, Err, length, sym, ap, subst, ◌∙◌, arith}
use Rattle.std.specs.Fmt.{decimal}
use Rattle.std.specs.Option.{MatchOption}
use Rattle.std.specs.Result.{result_ok}
use Rattle.std.specs.Str.Parse.{AllDigits, ParsesUnsigned}
use Rattle.std.proofs.lemmas.Fmt.{decimal-digits_value, decimal_digit, decimal_is_IsNumeral, first_decimal, parse-decimal}
use Rattle.std.proofs.lemmas.Str.Parse.{not_in_digits, numerals_by_value, parse_plain, tells_digits}
use Rattle.rds_run.specs.GenWords.{IsNamed, IsPlain}

-- what plain digits are read as has these decimal digits
pub digits_read : {E : Type 0} (word : List ℕ) (r : Result ℕ E) (n : ℕ) → IsPlain word → ParsesUnsigned 64 10 word r → r ≡ Ok n → word ≡ decimal n
digits_read {E} word (Ok x) n plain parses is =
    let own = numerals_by_value (AllDigits 10) tells_digits in
    let read = parse_plain own {E = E} 64 word (Ok x) parses plain.0 in
    let same : x ≡ n = cc in
    sym (decimal-digits_value own word read.0.0 read.0.1 plain.1 read.0.2) ∙ ap decimal (sym read.1 ∙ same)
digits_read word (Err e) n plain parses is = absurd (cc)

-- decimal digits are plain
pub decimal_plain : (n : ℕ) → n < 2 ^ 64 → IsPlain (decimal n)
decimal_plain zero small = let read = decimal_is_IsNumeral zero small in (
  not_in_digits (numerals_by_value (AllDigits 10) tells_digits) (decimal zero) 43 read.0.1 (λ within. omega (arith, within)) 0 read.0.0,
  λ first. ap length (decimal_digit 0 (omega arith)),
)
decimal_plain (suc n) small = let read = decimal_is_IsNumeral (suc n) small in (
  not_in_digits (numerals_by_value (AllDigits 10) tells_digits) (decimal (suc n)) 43 read.0.1 (λ within. omega (arith, within)) 0 read.0.0,
  λ first. absurd (omega (arith, first, first_decimal (suc n) (omega arith) small)),
)

-- a word that isn't read as a number within the bounds, with plain digits, is no such number
pub not_named : {E : Type 0} (low high : ℕ) (word : Option (List ℕ)) (text : List ℕ) (r : Result ℕ E) → high < 2 ^ 64 → word ≡ Some text → ParsesUnsigned 64 10 text r →
    ((n : ℕ) → r ≡ Ok n → IsPlain text → low ≤ n → n ≤ high → ⊥) → (n : ℕ) → IsNamed low high word n → ⊥
not_named low high (Some w) text r small is parses none n named =
    let one : w ≡ text = cc in
    let same : text ≡ decimal n = sym one ∙ named.digits in
    let fits : n < 2 ^ 64 = omega (arith, small, named.most) in
    none n (parse-decimal 64 n text r fits fits same parses) (subst IsPlain (sym same) (decimal_plain n fits)) named.least named.most
not_named low high None text r small is parses none n named = absurd (cc)

-- and one that is read so is that number
pub named_by : {E : Type 0} (low high : ℕ) (word : Option (List ℕ)) (text : List ℕ) (r : Result ℕ E) (n : ℕ) → word ≡ Some text → ParsesUnsigned 64 10 text r →
    r ≡ Ok n → IsPlain text → low ≤ n → n ≤ high → IsNamed low high word n
named_by low high word text r n is parses read plain least most =
    subst (λ (o : Option (List ℕ)). IsNamed low high o n) (sym is) (record { digits = digits_read text r n plain parses read; least = least; most = most })

-- nothing was read where there is no number
pub none_read : {E : Type 0} (r : Result ℕ E) → result_ok r ≡ None → (n : ℕ) → r ≡ Ok n → ⊥
none_read (Ok x) none n read = absurd (cc)
none_read (Err e) none n read = absurd (cc)

-- so that nothing is answered
pub none_named : (low high : ℕ) (word : Option (List ℕ)) (found : Option ℕ) → found ≡ None → ((n : ℕ) → IsNamed low high word n → ⊥) →
    MatchOption found ((n : ℕ) → IsNamed low high word n → ⊥) (λ n. IsNamed low high word n)
none_named low high word None is none = none
none_named low high word (Some n) is none = absurd (cc)
