-- Laws, each proved: proofs in other crates use them. Nothing here has to be believed.
-- The ports of a map, and of the words that it is kept as.
use Rattle.std.proofs.Common.{◌≡◌, ◌≢◌, ℕ, zero, suc, ◌+◌, ◌*◌, ◌/◌, ◌%◌, ◌^◌, ◌<◌, ◌≤◌, ◌==◌, nat_eq, if◌then◌else◌, false, List, length, replicate, slice_index, slice_set, bit_and, refl, sym, ap, ◌∙◌, subst, arith, ⊎_elim}
use Rattle.std.proofs.lemmas.Bool.{cases_eq, cases_lt, eq-eqb, ne_eqb}
use Rattle.std.proofs.lemmas.List.{ext_get_or, get_or-replicate, get_or_past, length-replicate, get_or-set_same, get_or-set_other}
use Rattle.std.proofs.lemmas.Nat.Bits.{shr_and_one, bit_at-zero, bit_at-lt, same_from_bits_below}
use Rattle.std.specs.Int.{bit_at}
use Rattle.rds_wire.specs.Bytes.{IsBytes}
use Rattle.rds_cong.specs.Map.{has_port, IsMap}
use Rattle.rds_cong.specs.DigitLaws.{bit-byte}
use Rattle.rds_cong.specs.WordLaws.{bytes_of_words, byte-bytes}

-- a port of words is a bit of one of them
pub has_port-bytes : (words : List ℕ) (p : ℕ) → has_port (bytes_of_words words) p ≡ (bit_at (slice_index words (p / 64)) (p % 64) == 1)
has_port-bytes words p =
    let j = (p / 8) % 8 in
    let place : p / 8 ≡ 8 * (p / 64) + j = omega arith in
    let small : j < 8 = omega arith in
    let low : p % 8 < 8 = omega arith in
    let bit : 8 * j + p % 8 ≡ p % 64 = omega arith in
    ap (λ b. bit_at b (p % 8) == 1) (ap (slice_index (bytes_of_words words)) place ∙ byte-bytes words (p / 64) j small)
    ∙ ap (λ b. b == 1) (bit-byte j (p % 8) (slice_index words (p / 64)) low ∙ ap (bit_at (slice_index words (p / 64))) bit)

-- two bits are the same where they are 1 alike
same_bit : (a b : ℕ) → a < 2 → b < 2 → (a == 1) ≡ (b == 1) → a ≡ b
same_bit zero zero ha hb e = refl
same_bit zero (suc zero) ha hb e = cc
same_bit (suc zero) zero ha hb e = cc
same_bit (suc zero) (suc zero) ha hb e = refl
same_bit (suc (suc a)) b ha hb e = absurd (omega arith)
same_bit a (suc (suc b)) ha hb e = absurd (omega arith)

-- two maps of one size are the same where their ports are
pub same_ports : (xs ys : List ℕ) → length xs ≡ length ys → IsBytes xs → IsBytes ys
    → ((p : ℕ) → has_port xs p ≡ has_port ys p) → xs ≡ ys
same_ports xs ys long bx by' same =
    ext_get_or 0 xs ys long (λ i h.
    same_from_bits_below 8 (slice_index xs i) (slice_index ys i) (bx i 0 h) (by' i 0 (subst (λ n. i < n) long h)) (λ k low.
    let place : (8 * i + k) / 8 ≡ i = omega arith in
    let bit : (8 * i + k) % 8 ≡ k = omega arith in
    let e : has_port xs (8 * i + k) ≡ has_port ys (8 * i + k) = same (8 * i + k) in
    same_bit (bit_at (slice_index xs i) k) (bit_at (slice_index ys i) k) (bit_at-lt _ k) (bit_at-lt _ k) (rw (place, bit) at e)))

pub same_maps : (xs ys : List ℕ) → IsMap xs → IsMap ys → ((p : ℕ) → has_port xs p ≡ has_port ys p) → xs ≡ ys
same_maps xs ys mx my same = same_ports xs ys (mx.size ∙ sym my.size) mx.bytes my.bytes same

-- a port of words by its place in a word
pub in_word : (words : List ℕ) (i q : ℕ) → q / 64 ≡ i → has_port (bytes_of_words words) q ≡ (bit_at (slice_index words i) (q % 64) == 1)
in_word words i q same = has_port-bytes words q ∙ ap (λ k. bit_at (slice_index words k) (q % 64) == 1) same

-- another word: its ports are its bits
pub has_port-word : (words : List ℕ) (i word q : ℕ) → i < length words
    → has_port (bytes_of_words (slice_set words i word)) q ≡ (if q / 64 == i then bit_at word (q % 64) == 1 else has_port (bytes_of_words words) q)
has_port-word words i word q h =
    ⊎_elim
    (λ (same : q / 64 ≡ i).
    in_word (slice_set words i word) i q same ∙ rw (get_or-set_same words i word 0 h, eq-eqb (q / 64) i same) refl)
    (λ (other : q / 64 ≢ i).
    has_port-bytes (slice_set words i word) q ∙ rw (get_or-set_other words i (q / 64) word 0 other, ne_eqb (q / 64) i other) (sym (has_port-bytes words q)))
    (cases_eq (q / 64) i)

-- the ports of word i
pub has_port-at : (words : List ℕ) (i q : ℕ) → q < 64
    → has_port (bytes_of_words words) (64 * i + q) ≡ (bit_at (slice_index words i) q == 1)
has_port-at words i q h =
    let word : (64 * i + q) / 64 ≡ i = omega arith in
    let bit : (64 * i + q) % 64 ≡ q = omega arith in
    in_word words i (64 * i + q) word ∙ ap (λ k. bit_at (slice_index words i) k == 1) bit

-- the test of a port in its word
pub has_port-test : (words : List ℕ) (p : ℕ)
    → nat_eq (bit_and (slice_index words (p / 64) / 2 ^ (p % 64)) 1) 1 ≡ has_port (bytes_of_words words) p
has_port-test words p = ap (λ b. nat_eq b 1) (shr_and_one (slice_index words (p / 64)) (p % 64)) ∙ sym (has_port-bytes words p)

-- zeros have no ports
pub has_port-zeros : (n : ℕ) (words : List ℕ) (q : ℕ) → words ≡ replicate n 0 → has_port (bytes_of_words words) q ≡ false
has_port-zeros n words q is =
    let zero_at : slice_index (replicate n 0) (q / 64) ≡ 0 = ⊎_elim
    (λ within. get_or-replicate n (q / 64) 0 0 within)
    (λ past. get_or_past (replicate n 0) (q / 64) 0 (subst (λ k. k ≤ q / 64) (sym (length-replicate n 0)) past))
    (cases_lt (q / 64) n) in
    has_port-bytes words q ∙ ap (λ ws. bit_at (slice_index ws (q / 64)) (q % 64) == 1) is
    ∙ ap (λ w. bit_at w (q % 64) == 1) zero_at ∙ ap (λ b. b == 1) (bit_at-zero (q % 64))
