-- The bits in which lists of words differ are none where the lists agree.
use Rattle.std.proofs.Common.{◌≡◌, ◌≢◌, ℕ, ◌+◌, ◌%◌, ◌^◌, ◌<◌, ◌≤◌, max, List, length, slice_index, bit_or, sym, ap, ◌∙◌, arith, ⊎_elim}
use Rattle.std.specs.Int.{bit_at}
use Rattle.std.specs.Int.Bits.{bit_xor, xor_self, or_self}
use Rattle.std.proofs.lemmas.Bool.{cases_eq}
use Rattle.std.proofs.lemmas.List.{ext_get_or}
use Rattle.std.proofs.lemmas.Nat.Bits.{bit_at_or, bit_at_xor, bit_at-zero, bit_at-lt, same_from_bits_below}

-- the first n words are the same
abbrev pub SameUpTo : List ℕ → List ℕ → ℕ → Type 0
SameUpTo xs ys n = (j : ℕ) → j < n → slice_index xs j ≡ slice_index ys j

-- the bits are none exactly where the first n words are the same
pub record Tells (bits : ℕ) (xs ys : List ℕ) (n : ℕ) : Type 0 where
  pub none : bits ≡ 0 → SameUpTo xs ys n
  pub same : SameUpTo xs ys n → bits ≡ 0

-- a union without bits has parts without bits
or_none : (a b : ℕ) → a < 2 ^ 64 → b < 2 ^ 64 → bit_or a b ≡ 0 → (a ≡ 0) × (b ≡ 0)
or_none a b fa fb none =
    let bits : (k : ℕ) → max (bit_at a k) (bit_at b k) ≡ 0 = λ k. sym (bit_at_or a b k) ∙ ap (λ n. bit_at n k) none ∙ bit_at-zero k in (
      same_from_bits_below 64 a 0 fa (omega arith) (λ k low. let m = bits k in let z = bit_at-zero k in omega arith),
      same_from_bits_below 64 b 0 fb (omega arith) (λ k low. let m = bits k in let z = bit_at-zero k in omega arith),
    )

-- two words that differ in no bit are one
xor_none : (a b : ℕ) → a < 2 ^ 64 → b < 2 ^ 64 → bit_xor a b ≡ 0 → a ≡ b
xor_none a b fa fb none = same_from_bits_below 64 a b fa fb (λ k low.
    let m : (bit_at a k + bit_at b k) % 2 ≡ 0 = sym (bit_at_xor a b k) ∙ ap (λ n. bit_at n k) none ∙ bit_at-zero k in
    let la = bit_at-lt a k in
    let lb = bit_at-lt b k in
    omega arith)

pub tells_none : (bits : ℕ) (xs ys : List ℕ) → bits ≡ 0 → Tells bits xs ys 0
tells_none bits xs ys none = record { none = λ e j low. absurd (omega arith); same = λ s. none }

-- one word more
pub tells_more : (bits x y : ℕ) (xs ys : List ℕ) (n : ℕ) → bits < 2 ^ 64 → x < 2 ^ 64 → y < 2 ^ 64 → bit_xor x y < 2 ^ 64
    → x ≡ slice_index xs n → y ≡ slice_index ys n → Tells bits xs ys n → Tells (bit_or bits (bit_xor x y)) xs ys (n + 1)
tells_more bits x y xs ys n fb fx fy fz at_x at_y t = record {
  none = λ e j low.
      let both = or_none bits (bit_xor x y) fb fz e in
      ⊎_elim
      (λ (last : j ≡ n). ap (slice_index xs) last ∙ sym at_x ∙ xor_none x y fx fy both.1 ∙ at_y ∙ ap (slice_index ys) (sym last))
      (λ (other : j ≢ n). t.none both.0 j (omega arith))
      (cases_eq j n);
  same = λ s.
      let zero = t.same (λ j low. s j (omega arith)) in
      let last : x ≡ y = at_x ∙ s n (omega arith) ∙ sym at_y in
      ap (λ b. bit_or b (bit_xor x y)) zero ∙ ap (λ z. bit_or 0 (bit_xor z y)) last ∙ ap (bit_or 0) (xor_self y) ∙ or_self 0;
}

-- all words
pub tells_all : (bits : ℕ) (xs ys : List ℕ) (n : ℕ) → length xs ≡ length ys → length xs ≤ n → n ≤ length xs → Tells bits xs ys n
    → (bits ≡ 0 → xs ≡ ys) × (xs ≡ ys → bits ≡ 0)
tells_all bits xs ys n long low high t = (
  (λ e. ext_get_or 0 xs ys long (λ i h. t.none e i (omega arith))),
  (λ e. t.same (λ j h. ap (λ zs. slice_index zs j) e)),
)
