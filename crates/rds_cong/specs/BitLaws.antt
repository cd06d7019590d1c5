-- Laws, each proved: proofs in other crates use them. Nothing here has to be believed.
-- One bit of a number put in or taken out, and the place of a bit by its quotient and its remainder.
use Rattle.std.proofs.Common.{◌≡◌, ◌≢◌, ℕ, zero, suc, ◌-◌, ◌*◌, ◌/◌, ◌%◌, ◌^◌, ◌<◌, ◌==◌, ◌&&◌, ◌||◌, not, min, max, bit_and, bit_or, refl, ap, ◌∙◌, arith, ⊎_elim, w64}
use Rattle.std.proofs.lemmas.Bool.{cases_eq, eq-eqb, ne_eqb}
use Rattle.std.proofs.lemmas.Nat.{one_shl, pow_below}
use Rattle.std.proofs.lemmas.Nat.Bits.{bit_at-lt, bit_at-pow_same, bit_at-pow_other, bit_at_and, bit_at_or, bit_at_not}
use Rattle.std.specs.Int.{Width, bit_at, bit_not}
use mir.Val.{bits}

-- the bits of two places of one byte, or of one word, are the same where the places are
pub low_8 : (q p : ℕ) → q / 8 ≡ p / 8 → (q % 8 == p % 8) ≡ (q == p)
low_8 q p high =
    ⊎_elim
    (λ (same : q ≡ p). rw (eq-eqb q p same, eq-eqb (q % 8) (p % 8) (ap (λ n. n % 8) same)) refl)
    (λ (other : q ≢ p). let low : q % 8 ≢ p % 8 = λ e. other (omega arith) in rw (ne_eqb q p other, ne_eqb (q % 8) (p % 8) low) refl)
    (cases_eq q p)

pub low_64 : (q p : ℕ) → q / 64 ≡ p / 64 → (q % 64 == p % 64) ≡ (q == p)
low_64 q p high =
    ⊎_elim
    (λ (same : q ≡ p). rw (eq-eqb q p same, eq-eqb (q % 64) (p % 64) (ap (λ n. n % 64) same)) refl)
    (λ (other : q ≢ p). let low : q % 64 ≢ p % 64 = λ e. other (omega arith) in rw (ne_eqb q p other, ne_eqb (q % 64) (p % 64) low) refl)
    (cases_eq q p)

-- the bits of 2 ^ k
bit-pow : (k r : ℕ) → (bit_at (2 ^ k) r == 1) ≡ (r == k)
bit-pow k r =
    ⊎_elim
    (λ (same : r ≡ k). rw (eq-eqb r k same, same, bit_at-pow_same k) refl)
    (λ (other : r ≢ k). rw (ne_eqb r k other, bit_at-pow_other k r other) refl)
    (cases_eq r k)

-- two bits joined, and one without another
either : (a b : ℕ) → a < 2 → b < 2 → (max a b == 1) ≡ (b == 1 || (a == 1))
either zero zero ha hb = refl
either zero (suc zero) ha hb = refl
either (suc zero) zero ha hb = refl
either (suc zero) (suc zero) ha hb = refl
either (suc (suc a)) b ha hb = absurd (omega arith)
either a (suc (suc b)) ha hb = absurd (omega arith)

first_alone : (a b : ℕ) → a < 2 → b < 2 → (min a (1 - b) == 1) ≡ (not (b == 1) && (a == 1))
first_alone zero zero ha hb = refl
first_alone zero (suc zero) ha hb = refl
first_alone (suc zero) zero ha hb = refl
first_alone (suc zero) (suc zero) ha hb = refl
first_alone (suc (suc a)) b ha hb = absurd (omega arith)
first_alone a (suc (suc b)) ha hb = absurd (omega arith)

-- bit k put in
pub bit-put : (n k r : ℕ) → (bit_at (bit_or n (2 ^ k)) r == 1) ≡ (r == k || (bit_at n r == 1))
bit-put n k r =
    ap (λ b. b == 1) (bit_at_or n (2 ^ k) r) ∙ either (bit_at n r) (bit_at (2 ^ k) r) (bit_at-lt n r) (bit_at-lt (2 ^ k) r)
    ∙ ap (λ b. b || (bit_at n r == 1)) (bit-pow k r)

-- bit k taken out
pub bit-taken : (w : Width) (n k r : ℕ) → k < bits w → r < bits w
    → (bit_at (bit_and n (bit_not w (2 ^ k))) r == 1) ≡ (not (r == k) && (bit_at n r == 1))
bit-taken w n k r hk hr =
    ap (λ b. b == 1) (bit_at_and n (bit_not w (2 ^ k)) r ∙ ap (min (bit_at n r)) (bit_at_not w (2 ^ k) r (pow_below k (bits w) hk) hr))
    ∙ first_alone (bit_at n r) (bit_at (2 ^ k) r) (bit_at-lt n r) (bit_at-lt (2 ^ k) r)
    ∙ ap (λ b. not b && (bit_at n r == 1)) (bit-pow k r)

-- the same in a word, as code shifts a 1 there
pub bit-put_shifted : (n k r : ℕ) → k < 64 → (bit_at (bit_or n (1 * 2 ^ k % 2 ^ 64)) r == 1) ≡ (r == k || (bit_at n r == 1))
bit-put_shifted n k r h = ap (λ m. bit_at (bit_or n m) r == 1) (one_shl k 64 h) ∙ bit-put n k r

pub bit-taken_shifted : (n k r : ℕ) → k < 64 → r < 64
    → (bit_at (bit_and n (bit_not w64 (1 * 2 ^ k % 2 ^ 64))) r == 1) ≡ (not (r == k) && (bit_at n r == 1))
bit-taken_shifted n k r hk hr = ap (λ m. bit_at (bit_and n (bit_not w64 m)) r == 1) (one_shl k 64 hk) ∙ bit-taken w64 n k r hk hr
