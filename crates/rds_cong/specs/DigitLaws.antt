-- Laws, each proved: proofs in other crates use them. Nothing here has to be believed.
-- The bytes of a number, lowest first, and their bits.
use Rattle.std.proofs.Common.{◌≡◌, ℕ, zero, suc, ◌+◌, ◌*◌, ◌/◌, ◌%◌, ◌^◌, ◌<◌, List, slice_index, refl, sym, ap, ◌∙◌, arith}
use Rattle.std.proofs.Math.Nat.{div-div-eq-div-mul, pow-succ'}
use Rattle.std.proofs.lemmas.Nat.{pow-add, shr-shr}
use Rattle.std.proofs.lemmas.Nat.Bits.{bit_at_cat_low}
use Rattle.std.specs.Int.{bit_at, byte_at}
use Rattle.byteorder.specs.Endian.{little_from}

-- byte j of n is n / 256 ^ j, cut to a byte
pub byte_is : (j n : ℕ) → byte_at j n ≡ n / 256 ^ j % 256
byte_is zero n = let e : n / 1 ≡ n = omega arith in ap (λ m. m % 256) (sym e)
byte_is (suc j) n = refl

-- byte 0 is all of byte 0, and each higher one is a byte of the rest
pub byte_next : (j n : ℕ) → byte_at (suc j) n ≡ byte_at j (n / 256)
byte_next j n =
    ap (λ m. n / m % 256) (pow-succ' 256 j) ∙ ap (λ m. m % 256) (sym (div-div-eq-div-mul n 256 (256 ^ j))) ∙ sym (byte_is j (n / 256))

pub byte-zero : (j : ℕ) → byte_at j 0 ≡ 0
byte-zero zero = refl
byte-zero (suc j) = byte_next j 0 ∙ byte-zero j

pub byte_below : (j n : ℕ) → byte_at j n < 256
byte_below zero n = omega arith
byte_below (suc j) n = omega arith

-- 256 ^ j is 2 ^ (8 * j)
pow_bytes : (j : ℕ) → 256 ^ j ≡ 2 ^ (8 * j)
pow_bytes zero = refl
pow_bytes (suc j) =
    let e : 8 * suc j ≡ 8 + 8 * j = omega arith in
    pow-succ' 256 j ∙ ap (λ m. 256 * m) (pow_bytes j) ∙ sym (ap (λ m. 2 ^ m) e ∙ pow-add 2 8 (8 * j))

-- bit k of byte j of n is bit 8 j + k of n
pub bit-byte : (j k n : ℕ) → k < 8 → bit_at (byte_at j n) k ≡ bit_at n (8 * j + k)
bit-byte j k n h =
    let m = n / 256 ^ j in
    let whole : m / 256 * 2 ^ 8 + m % 256 ≡ m = omega arith in
    let cut : bit_at (m % 256) k ≡ bit_at m k = sym (bit_at_cat_low (m / 256) 8 (m % 256) k h) ∙ ap (λ x. bit_at x k) whole in
    ap (λ b. bit_at b k) (byte_is j n) ∙ cut ∙ ap (λ p. n / p / 2 ^ k % 2) (pow_bytes j) ∙ ap (λ x. x % 2) (shr-shr n (8 * j) k)

-- byte j of the number in n bytes is the byte there
pub byte-little : (n i j : ℕ) (bytes : List ℕ) → ((k : ℕ) → slice_index bytes k < 256) → j < n
    → byte_at j (little_from i n bytes) ≡ slice_index bytes (i + j)
byte-little zero i j bytes small h = absurd (omega arith)
byte-little (suc n) i zero bytes small h =
    let x = slice_index bytes i in
    let y = little_from (suc i) n bytes in
    let b : x < 256 = small i in
    let e : (x + 256 * y) % 256 ≡ x = omega arith in
    e ∙ ap (λ k. slice_index bytes k) (omega arith)
byte-little (suc n) i (suc j) bytes small h =
    let x = slice_index bytes i in
    let y = little_from (suc i) n bytes in
    let b : x < 256 = small i in
    let e : (x + 256 * y) / 256 ≡ y = omega arith in
    let at : suc i + j ≡ i + suc j = omega arith in
    byte_next j (x + 256 * y) ∙ ap (byte_at j) e ∙ byte-little n (suc i) j bytes small (omega arith) ∙ ap (slice_index bytes) at
