-- What end-around carry leaves of a sum, and of a list of words.
use Rattle.std.proofs.Common.{◌≡◌, ℕ, zero, suc, ◌+◌, ◌*◌, ◌/◌, ◌%◌, ◌<◌, ◌^◌, List, [], ◌∷◌, ◌++◌, length, refl, sym, ap, ◌∙◌, arith}
use Rattle.std.proofs.lemmas.List.{append-nil}
use Rattle.std.proofs.Math.Nat.{add-mul-mod_self_left, pow-succ'}
use Rattle.std.proofs.lemmas.Bool.Decides.{nat_tests}
use Rattle.byteorder.specs.Endian.{big_bytes, big_number, big_from}
use Rattle.byteorder.specs.Numbers.{big_from-cons, big_number-reads_back, length-bytes_high_first}
use Rattle.rds_wire.specs.Bytes.{folded, word_sum}

-- b is a with some of its carries added at the low end
pub record Folds (a b : ℕ) : Type 0 where
  pub times : ℕ
  pub sum : a ≡ b + 65535 * times
  pub zero : b ≡ 0 → a ≡ 0

-- what is folded from a number above 0
folded-suc : (n : ℕ) → folded (suc n) ≡ 1 + n % 65535
folded-suc n = grind (arith, nat_tests)

pub folded-Folds : (a b : ℕ) → Folds a b → folded a ≡ folded b
folded-Folds a zero folds = ap folded (folds.zero refl)
folded-Folds zero (suc b) folds = absurd (omega arith)
folded-Folds (suc a) (suc b) folds =
    let same : a ≡ b + 65535 * folds.times = omega arith in
    folded-suc a ∙ ap (λ n. 1 + n) (ap (λ n. n % 65535) same ∙ add-mul-mod_self_left b 65535 folds.times) ∙ sym (folded-suc b)

pub Folds-folded : (n : ℕ) → Folds n (folded n)
Folds-folded zero = record { times = 0; sum = refl; zero = λ z. refl }
Folds-folded (suc n) =
    let is = folded-suc n in
    record { times = n / 65535; sum = omega arith; zero = λ z. absurd (omega arith) }

Folds-add : (a b c d : ℕ) → Folds a b → Folds c d → Folds (a + c) (b + d)
Folds-add a b c d left right = record {
  times = left.times + right.times;
  sum = omega (arith, left.sum, right.sum);
  zero = λ z.
      let first = left.zero (omega arith) in
      let second = right.zero (omega arith) in
      omega arith;
}

-- sums of numbers that fold alike fold alike
pub folded-add : (a b c d : ℕ) → folded a ≡ folded c → folded b ≡ folded d → folded (a + b) ≡ folded (c + d)
folded-add a b c d first second =
    folded-Folds (a + b) (folded a + folded b) (Folds-add a (folded a) b (folded b) (Folds-folded a) (Folds-folded b))
    ∙ (λ i. folded (first i + second i))
    ∙ sym (folded-Folds (c + d) (folded c + folded d) (Folds-add c (folded c) d (folded d) (Folds-folded c) (Folds-folded d)))

-- the carries above 16 bits, added at the low end
pub folded-carry : (n : ℕ) → folded (n / 2 ^ 16 + n % 2 ^ 16) ≡ folded n
folded-carry n = sym (folded-Folds n (n / 2 ^ 16 + n % 2 ^ 16) (record {
  times = n / 2 ^ 16;
  sum = omega arith;
  zero = λ z. omega arith;
}))

-- those above 32 bits
pub folded-halves : (n : ℕ) → folded (n / 2 ^ 32 + n % 2 ^ 32) ≡ folded n
folded-halves n = sym (folded-Folds n (n / 2 ^ 32 + n % 2 ^ 32) (record {
  times = 65537 * (n / 2 ^ 32);
  sum = omega arith;
  zero = λ z. omega arith;
}))

-- a number of 16 bits folds to itself
pub folded-small : (n : ℕ) → n < 65536 → folded n ≡ n
folded-small zero small = refl
folded-small (suc n) small = let is = folded-suc n in omega arith

-- words in front
pub word_sum-append : (n : ℕ) (xs ys : List ℕ) → length xs ≡ 2 * n → word_sum (xs ++ ys) ≡ word_sum xs + word_sum ys
word_sum-append zero [] ys even = omega arith
word_sum-append zero (x ∷ xs) ys even = absurd (omega arith)
word_sum-append (suc n) [] ys even = absurd (omega arith)
word_sum-append (suc n) (x ∷ []) ys even = absurd (omega arith)
word_sum-append (suc n) (x ∷ y ∷ xs) ys even =
    let rest = word_sum-append n xs ys (omega arith) in
    omega arith

-- 65,536 to any power is 1 more than a multiple of 65,535
power_of_words : (n : ℕ) → (times : ℕ) × (256 ^ (2 * n) ≡ 1 + 65535 * times)
power_of_words zero = (0, refl)
power_of_words (suc n) =
    let before = power_of_words n in
    let twice : 2 * suc n ≡ suc (suc (2 * n)) = omega arith in
    let step : 256 ^ (2 * suc n) ≡ 256 * (256 * 256 ^ (2 * n)) =
    ap (λ m. 256 ^ m) twice ∙ pow-succ' 256 (suc (2 * n)) ∙ ap (λ m. 256 * m) (pow-succ' 256 (2 * n)) in
    (1 + 65536 * before.0, omega (arith, step, before.1))

-- words fold to what the number that they spell folds to
Folds-words : (n : ℕ) (xs : List ℕ) → length xs ≡ 2 * n → Folds (big_number (2 * n) xs) (word_sum xs)
Folds-words zero [] even = record { times = 0; sum = refl; zero = λ z. refl }
Folds-words zero (x ∷ xs) even = absurd (omega arith)
Folds-words (suc n) [] even = absurd (omega arith)
Folds-words (suc n) (x ∷ []) even = absurd (omega arith)
Folds-words (suc n) (x ∷ y ∷ xs) even =
    let rest = Folds-words n xs (omega arith) in
    let power = power_of_words n in
    let twice : 2 * suc n ≡ suc (suc (2 * n)) = omega arith in
    let moved : big_from 2 (2 * n) (x ∷ y ∷ xs) ≡ big_number (2 * n) xs =
    big_from-cons 1 (2 * n) x (y ∷ xs) ∙ big_from-cons 0 (2 * n) y xs in
    let spelt : big_number (2 * suc n) (x ∷ y ∷ xs) ≡ x * (256 * 256 ^ (2 * n)) + (y * 256 ^ (2 * n) + big_number (2 * n) xs) =
    ap (λ m. big_number m (x ∷ y ∷ xs)) twice
    ∙ (λ i. x * pow-succ' 256 (2 * n) i + (y * 256 ^ (2 * n) + moved i)) in
    let whole : big_number (2 * suc n) (x ∷ y ∷ xs) ≡ x * (256 * (1 + 65535 * power.0)) + (y * (1 + 65535 * power.0) + big_number (2 * n) xs) =
    spelt ∙ (λ i. x * (256 * power.1 i) + (y * power.1 i + big_number (2 * n) xs)) in
    record {
      times = 256 * (x * power.0) + y * power.0 + rest.times;
      sum = omega (arith, whole, rest.sum);
      zero = λ z.
          let none_x : x ≡ 0 = omega arith in
          let none_y : y ≡ 0 = omega arith in
          let none = rest.zero (omega arith) in
          spelt ∙ (λ i. none_x i * (256 * 256 ^ (2 * n)) + (none_y i * 256 ^ (2 * n) + none i)) ∙ omega arith;
    }

pub folded-words : (n : ℕ) (xs : List ℕ) → length xs ≡ 2 * n → folded (word_sum xs) ≡ folded (big_number (2 * n) xs)
folded-words n xs even = sym (folded-Folds (big_number (2 * n) xs) (word_sum xs) (Folds-words n xs even))

-- the bytes of a number fold to what the number folds to
pub folded-number : (n x : ℕ) → x < 256 ^ (2 * n) → folded (word_sum (big_bytes (2 * n) x)) ≡ folded x
folded-number n x fits =
    let bytes = big_bytes (2 * n) x in
    folded-words n bytes (length-bytes_high_first (2 * n) x)
    ∙ ap folded (ap (big_number (2 * n)) (sym (append-nil bytes)) ∙ big_number-reads_back (2 * n) x [] fits)
