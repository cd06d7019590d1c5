-- Flags of numbers that are counted from 1.
use Rattle.std.proofs.Common.{◌≡◌, ◌<◌, ◌≤◌, ◌+◌, ◌-◌, ◌==◌, inl, inr, ℕ, zero, suc, Bool, if◌then◌else◌, List, [], ◌∷◌, ◌++◌, length, set, get_or, arith, refl, sym, ap, ◌∙◌, length-append}
use Rattle.std.proofs.lemmas.List.{map-append, set-append_left, length-map, get_or_append_left}
use Rattle.std.proofs.Math.Seq.{set-append_seam, get_or-append_seam}
use Rattle.std.proofs.lemmas.Bool.{cases_eq, eq-eqb, ne_eqb, cond-true, cond-false}
use Rattle.rds_model.specs.Alive.{up_to}
use Rattle.rds_report.specs.Items.{flags}

pub length-up_to : (m : ℕ) → length (up_to m) ≡ m
length-up_to zero = refl
length-up_to (suc m) = length-append (up_to m) (suc m ∷ []) ∙ omega (arith, length-up_to m)

pub length-flags : (test : ℕ → Bool) (m : ℕ) → length (flags test m) ≡ m
length-flags test m = length-map (up_to m) test ∙ length-up_to m

-- tests that agree on the numbers give the same flags
pub flags_same : (t u : ℕ → Bool) (m : ℕ) → ((n : ℕ) → 1 ≤ n → n ≤ m → t n ≡ u n) → flags t m ≡ flags u m
flags_same t u zero h = refl
flags_same t u (suc m) h =
    let last : t (suc m) ≡ u (suc m) = h (suc m) (omega arith) (omega arith) in
    map-append t (up_to m) (suc m ∷ [])
    ∙ ap (λ (l : List Bool). l ++ t (suc m) ∷ []) (flags_same t u m (λ n a b. h n a (omega arith)))
    ∙ ap (λ (b : Bool). flags u m ++ b ∷ []) last ∙ sym (map-append u (up_to m) (suc m ∷ []))

-- the flags of one number more
pub flags_more : (t : ℕ → Bool) (m : ℕ) → flags t (suc m) ≡ flags t m ++ t (suc m) ∷ []
flags_more t m = map-append t (up_to m) (suc m ∷ [])

-- one flag is set
abbrev pub one : ℕ → Bool → (ℕ → Bool) → ℕ → Bool
one number value test n = if number == n then value else test n

pub one_at : (number : ℕ) (value : Bool) (test : ℕ → Bool) (n : ℕ) → number ≡ n → one number value test n ≡ value
one_at number value test n is = cond-true (number == n) value (test n) (eq-eqb number n is)

pub one_other : (number : ℕ) (value : Bool) (test : ℕ → Bool) (n : ℕ) → (number ≡ n → ⊥) → one number value test n ≡ test n
one_other number value test n other = cond-false (number == n) value (test n) (ne_eqb number n other)

pub set_one : (test : ℕ → Bool) (value : Bool) (number m : ℕ) → 1 ≤ number → number ≤ m →
    set (flags test m) (number - 1) value ≡ flags (one number value test) m
set_one test value number zero low high = absurd (omega arith)
set_one test value number (suc m) low high =
    elim (cases_eq number (suc m)) [
      | inl last ↦
          let k : number - 1 ≡ length (flags test m) = omega (arith, last, length-flags test m) in
          let rest : flags test m ≡ flags (one number value test) m =
          flags_same test (one number value test) m (λ n a b. sym (one_other number value test n (λ e. omega arith))) in
          ap (λ (l : List Bool). set l (number - 1) value) (flags_more test m)
          ∙ ap (λ (i : ℕ). set (flags test m ++ test (suc m) ∷ []) i value) k
          ∙ set-append_seam (flags test m) (test (suc m)) [] value
          ∙ ap (λ (l : List Bool). l ++ value ∷ []) rest
          ∙ ap (λ (b : Bool). flags (one number value test) m ++ b ∷ []) (sym (one_at number value test (suc m) last))
          ∙ sym (flags_more (one number value test) m)
      | inr other ↦
          let below : number - 1 < length (flags test m) = let n = length-flags test m in omega (arith, other, n) in
          ap (λ (l : List Bool). set l (number - 1) value) (flags_more test m)
          ∙ set-append_left (flags test m) (test (suc m) ∷ []) (number - 1) value below
          ∙ ap (λ (l : List Bool). l ++ test (suc m) ∷ []) (set_one test value number m low (omega (arith, other)))
          ∙ ap (λ (b : Bool). flags (one number value test) m ++ b ∷ []) (sym (one_other number value test (suc m) other))
          ∙ sym (flags_more (one number value test) m)
    ]

-- the flag of a number
pub flag_at : (test : ℕ → Bool) (m i : ℕ) (d : Bool) → i < m → get_or (flags test m) i d ≡ test (i + 1)
flag_at test zero i d below = absurd (omega arith)
flag_at test (suc m) i d below =
    elim (cases_eq i m) [
      | inl last ↦
          let k : i ≡ length (flags test m) = omega (arith, last, length-flags test m) in
          let n : suc m ≡ i + 1 = omega (arith, last) in
          ap (λ (l : List Bool). get_or l i d) (flags_more test m)
          ∙ ap (λ (j : ℕ). get_or (flags test m ++ test (suc m) ∷ []) j d) k
          ∙ get_or-append_seam (flags test m) (test (suc m)) [] d ∙ ap test n
      | inr other ↦
          let short : i < length (flags test m) = let n = length-flags test m in omega (arith, other, n) in
          ap (λ (l : List Bool). get_or l i d) (flags_more test m)
          ∙ get_or_append_left (flags test m) (test (suc m) ∷ []) d i short ∙ flag_at test m i d (omega (arith, other))
    ]
