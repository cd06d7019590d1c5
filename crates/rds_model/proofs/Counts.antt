-- How many entries of a journal pass a test, and how many numbers do.
use Rattle.std.proofs.Common.{◌≡◌, inl, inr, ℕ, zero, suc, ◌+◌, ◌<◌, ◌≤◌, ◌==◌, ◌&&◌, Bool, true, false, List, [], ◌∷◌, refl, sym, ◌∙◌, ap, arith}
use Rattle.std.proofs.lemmas.Bool.{cases_eq, cases_lt, eq-eqb, ne_eqb}
use Rattle.rds_wire.specs.declared.frame.Frame.{Frame}
use Rattle.rds_model.specs.declared.entry.Entry.{Entry}
use Rattle.rds_model.specs.declared.entry.Entry.TheVariants.{Pull, Read}

-- a test counts as 1 where it passes
abbrev pub bit : Bool → ℕ
bit true = 1
bit false = 0

pub small_bit : (b : Bool) → bit b ≤ 1
small_bit true = omega arith
small_bit false = omega arith

pub bit_within : (a b : Bool) → (a ≡ true → b ≡ true) → bit a ≤ bit b
bit_within true b passes = let here : bit b ≡ 1 = ap bit (passes refl) in omega (arith, here)
bit_within false b passes = omega arith

-- how many entries pass
abbrev pub count : (Entry → Bool) → List Entry → ℕ
count such [] = 0
count such (e ∷ past) = bit (such e) + count such past

-- the entry is the pull of such a frame on such a stream, or the reading
abbrev pub pulls : (ℕ → Frame → Bool) → Entry → Bool
pulls such (Pull stream frame) = such stream frame
pulls such _ = false

abbrev pub reads : (ℕ → Frame → Bool) → Entry → Bool
reads such (Read stream frame outcome) = such stream frame
reads such _ = false

-- how many such frames were pulled, and read
abbrev pub pulled : (Frame → Bool) → List Entry → ℕ
pulled such past = count (pulls (λ stream frame. such frame)) past

abbrev pub read : (Frame → Bool) → List Entry → ℕ
read such past = count (reads (λ stream frame. such frame)) past

-- a weaker test passes as many
pub pulls_within : (p q : ℕ → Frame → Bool) → ((s : ℕ) (f : Frame) → bit (p s f) ≤ bit (q s f)) → (past : List Entry) →
    count (pulls p) past ≤ count (pulls q) past
pulls_within p q within [] = omega arith
pulls_within p q within (Pull s f ∷ past) = omega (arith, within s f, pulls_within p q within past)
pulls_within p q within (_ ∷ past) = omega (arith, pulls_within p q within past)

-- a test that two others split
pub pulls_split : (p q r : ℕ → Frame → Bool) → ((s : ℕ) (f : Frame) → bit (p s f) ≡ bit (q s f) + bit (r s f)) → (past : List Entry) →
    count (pulls p) past ≡ count (pulls q) past + count (pulls r) past
pulls_split p q r splits [] = omega arith
pulls_split p q r splits (Pull s f ∷ past) = omega (arith, splits s f, pulls_split p q r splits past)
pulls_split p q r splits (_ ∷ past) = omega (arith, pulls_split p q r splits past)

pub reads_split : (p q r : ℕ → Frame → Bool) → ((s : ℕ) (f : Frame) → bit (p s f) ≡ bit (q s f) + bit (r s f)) → (past : List Entry) →
    count (reads p) past ≡ count (reads q) past + count (reads r) past
reads_split p q r splits [] = omega arith
reads_split p q r splits (Read s f o ∷ past) = omega (arith, splits s f, reads_split p q r splits past)
reads_split p q r splits (_ ∷ past) = omega (arith, reads_split p q r splits past)

-- a test that nothing passes
pub reads_none : (p : ℕ → Frame → Bool) → ((s : ℕ) (f : Frame) → bit (p s f) ≡ 0) → (past : List Entry) → count (reads p) past ≡ 0
reads_none p never [] = refl
reads_none p never (Read s f o ∷ past) = omega (arith, never s f, reads_none p never past)
reads_none p never (_ ∷ past) = omega (arith, reads_none p never past)

-- how many numbers from 1 to n pass
abbrev pub count_to : ℕ → (ℕ → Bool) → ℕ
count_to zero such = 0
count_to (suc n) such = bit (such (suc n)) + count_to n such

pub count_to_most : (n : ℕ) (p : ℕ → Bool) → count_to n p ≤ n
count_to_most zero p = omega arith
count_to_most (suc n) p = omega (arith, small_bit (p (suc n)), count_to_most n p)

pub count_to_within : (n : ℕ) (p q : ℕ → Bool) → ((k : ℕ) → bit (p k) ≤ bit (q k)) → count_to n p ≤ count_to n q
count_to_within zero p q within = omega arith
count_to_within (suc n) p q within = omega (arith, within (suc n), count_to_within n p q within)

pub count_to_sum : (n : ℕ) (p q r : ℕ → Bool) → ((k : ℕ) → bit (p k) ≤ bit (q k) + bit (r k)) → count_to n p ≤ count_to n q + count_to n r
count_to_sum zero p q r within = omega arith
count_to_sum (suc n) p q r within = omega (arith, within (suc n), count_to_sum n p q r within)

-- one number no longer passes
pub count_to_less : (n : ℕ) (p q : ℕ → Bool) → ((k : ℕ) → bit (p k) ≤ bit (q k)) → (k : ℕ) → 0 < k → k ≤ n → p k ≡ false → q k ≡ true →
    suc (count_to n p) ≤ count_to n q
count_to_less zero p q within k above low fails passed = absurd (omega arith)
count_to_less (suc n) p q within k above low fails passed =
    elim (cases_eq k (suc n)) [
      | inl is ↦
          let out : bit (p (suc n)) ≡ 0 = ap (λ i. bit (p i)) (sym is) ∙ ap bit fails in
          let there : bit (q (suc n)) ≡ 1 = ap (λ i. bit (q i)) (sym is) ∙ ap bit passed in
          omega (arith, out, there, count_to_within n p q within)
      | inr other ↦ omega (arith, within (suc n), count_to_less n p q within k above (omega arith) fails passed)
    ]

-- up to a higher number at least as many pass, and one more where that number does
pub count_to_grows : (p : ℕ → Bool) (x y : ℕ) → x ≤ y → count_to x p ≤ count_to y p
count_to_grows p x zero low = let is : x ≡ 0 = omega arith in omega (arith, ap (λ i. count_to i p) is)
count_to_grows p x (suc y) low =
    elim (cases_lt y x) [
      | inl above ↦ let is : x ≡ suc y = omega arith in omega (arith, ap (λ i. count_to i p) is)
      | inr within ↦ omega (arith, count_to_grows p x y within)
    ]

pub count_to_more : (p : ℕ → Bool) (x y : ℕ) → x < y → p y ≡ true → suc (count_to x p) ≤ count_to y p
count_to_more p x zero low passed = absurd (omega arith)
count_to_more p x (suc y) low passed = omega (arith, ap bit passed, count_to_grows p x y (omega arith))

-- one number is counted once
not_yet : (c : Bool) (n k : ℕ) → k < n → count_to k (λ i. (i == n) && c) ≡ 0
not_yet c n zero low = refl
not_yet c n (suc k) low =
    let other : bit ((suc k == n) && c) ≡ 0 = ap (λ b. bit (b && c)) (ne_eqb (suc k) n (λ e. omega arith)) in
    omega (arith, other, not_yet c n k (omega arith))

pub count_to_one : (c : Bool) (n k : ℕ) → count_to k (λ i. (i == n) && c) ≤ bit c
count_to_one c n zero = omega arith
count_to_one c n (suc k) =
    elim (cases_eq (suc k) n) [
      | inl is ↦
          let here : bit ((suc k == n) && c) ≡ bit c = ap (λ b. bit (b && c)) (eq-eqb (suc k) n is) in
          omega (arith, here, not_yet c n k (omega arith))
      | inr other ↦
          let here : bit ((suc k == n) && c) ≡ 0 = ap (λ b. bit (b && c)) (ne_eqb (suc k) n other) in
          omega (arith, here, count_to_one c n k)
    ]
