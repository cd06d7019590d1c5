-- The digits that the crate `hex` gives are those of the definitions.
use Rattle.std.proofs.Common.{◌≡◌, ℕ, zero, suc, ◌<◌, ◌≤◌, ◌/◌, ◌%◌, ◌==◌, ◌&&◌, ltb, Bool, true, false, List, [], ◌∷◌, ◌++◌, length, slice_index, refl, sym, ◌∙◌, arith, IsUtf8, flat_map, inl, inr}
use Rattle.std.proofs.lemmas.Bool.{and_parts, cases_lt, eqb-true, ltb-true}
use Rattle.std.proofs.lemmas.List.{get_or_past}
use Rattle.std.proofs.lemmas.Str.{IsUtf8-from_ascii}
use Rattle.std.specs.Fmt.{digit_glyph}
use Rattle.hex.specs.Hex.{IsBytes, encode_lower, encode_with, lower_digits}
use Rattle.hex.proofs.HexLemmas.{IsAscii-encode_with}
use Rattle.rds_text.specs.Words.{hex, hex_byte}

-- whether a test passes at each number below n
abbrev pass_below : (ℕ → Bool) → ℕ → Bool
pass_below test zero = true
pass_below test (suc n) = test n && pass_below test n

passes : (test : ℕ → Bool) (n k : ℕ) → pass_below test n ≡ true → k < n → test k ≡ true
passes test zero k all below = absurd (omega (arith, below))
passes test (suc n) k all below =
    let both = and_parts (test n) (pass_below test n) all in
    elim (cases_lt k n) [
      | inl less ↦ passes test n k both.1 less
      | inr rest ↦
          let last : k ≡ n = omega (arith, below, rest) in
          rw last both.0
    ]

-- each of the sixteen digits is the same in both
glyph : (n : ℕ) → n < 16 → slice_index lower_digits n ≡ digit_glyph false n
glyph n below =
    eqb-true (slice_index lower_digits n) (digit_glyph false n)
    (passes (λ (k : ℕ). slice_index lower_digits k == digit_glyph false k) 16 n refl below)

-- and is ASCII
ascii : (n : ℕ) → slice_index lower_digits n < 128
ascii n =
    elim (cases_lt n 16) [
      | inl below ↦ ltb-true (slice_index lower_digits n) 128 (passes (λ (k : ℕ). ltb (slice_index lower_digits k) 128) 16 n refl below)
      | inr rest ↦ let past : slice_index lower_digits n ≡ 0 = get_or_past lower_digits n 0 rest in rw past (omega arith)
    ]

pub encoded : (bytes : List ℕ) → IsBytes bytes → encode_lower bytes ≡ flat_map hex_byte bytes
unfolding encode_with
encoded [] fit = refl
encoded (b ∷ bytes) fit =
    let byte : b < 256 = fit 0 in
    let high : b / 16 < 16 = omega (arith, byte) in
    let low : b % 16 < 16 = omega arith in
    rw (glyph (b / 16) high, glyph (b % 16) low, encoded bytes (λ i. fit (suc i))) refl

-- they are text
pub encoded_is_text : (bytes : List ℕ) → IsUtf8 (encode_lower bytes)
encoded_is_text bytes = IsUtf8-from_ascii (encode_lower bytes) (IsAscii-encode_with lower_digits bytes ascii)

-- bytes, where there are some, are printed as their digits
pub printed : (bytes : List ℕ) → (length bytes ≡ 0 → ⊥) → flat_map hex_byte bytes ≡ hex bytes
printed [] some = absurd (some refl)
printed (b ∷ bytes) some = refl
