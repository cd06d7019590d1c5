-- No more frames of a kind are read than the peer pulled.
use Rattle.std.proofs.Common.{◌≡◌, inl, inr, ℕ, zero, suc, ◌+◌, ◌<◌, ◌≤◌, ◌==◌, ◌&&◌, nat_lt, Bool, true, false, cond, List, [], ◌∷◌, ◌++◌, refl, ap, arith}
use Rattle.std.proofs.lemmas.Bool.{cases_eq, cases_lt, eq-eqb, ne_eqb, lt-ltb, le-ltb}
use Rattle.rds_wire.specs.declared.frame.Frame.{Frame}
use Rattle.rds_model.specs.declared.entry.Entry.{Entry}
use Rattle.rds_model.specs.declared.entry.Entry.TheVariants.{Open, Pull, Read}
use Rattle.rds_model.specs.Past.{now, newest_stream}
use Rattle.rds_model.specs.Streams.{pulled_frames, read_frames}
use Rattle.rds_model.specs.Legal.{IsLegal}
use Rattle.rds_model.specs.LegalityLaws.{lawful_open, lawful_read, open_is_newest}
use Rattle.rds_model.proofs.Matching.{ArePeers, matched}
use Rattle.rds_model.proofs.Counts.{bit, small_bit, count, pulls, reads, pulled, read, pulls_within, pulls_split, reads_split, reads_none}

-- how many frames of a list pass
abbrev among : (Frame → Bool) → List Frame → ℕ
among test [] = 0
among test (f ∷ fs) = bit (test f) + among test fs

among_append : (test : Frame → Bool) (fs gs : List Frame) → among test (fs ++ gs) ≡ among test fs + among test gs
among_append test [] gs = omega arith
among_append test (f ∷ fs) gs = omega (arith, among_append test fs gs)

both_bit : (t b : Bool) → b ≡ true → bit (t && b) ≡ bit t
both_bit true b is = ap bit is
both_bit false b is = refl

first_bit : (t b : Bool) → bit (t && b) ≤ bit t
first_bit true b = small_bit b
first_bit false b = omega arith

-- the frame passes on stream n, or on an earlier one
abbrev on : (Frame → Bool) → ℕ → ℕ → Frame → Bool
on test n s f = test f && (s == n)

abbrev below : (Frame → Bool) → ℕ → ℕ → Frame → Bool
below test n s f = test f && nat_lt s n

-- the frames of one stream
one_stream : (test : Frame → Bool) (f : Frame) (fs : List Frame) (n : ℕ) (b : Bool) → n ≡ among test fs →
    bit (test f && b) + n ≡ among test (cond b (fs ++ f ∷ []) fs)
one_stream test f fs n true older = omega (arith, both_bit (test f) true refl, among_append test fs (f ∷ []))
one_stream test f fs n false older = by_test (test f)
  where
    by_test : (t : Bool) → bit (t && false) + n ≡ among test fs
    by_test true = omega arith
    by_test false = omega arith

pulled_on : (test : Frame → Bool) (n : ℕ) (past : List Entry) → count (pulls (on test n)) past ≡ among test (pulled_frames n past)
pulled_on test n [] = refl
pulled_on test n (Pull s f ∷ past) = one_stream test f (pulled_frames n past) (count (pulls (on test n)) past) (s == n) (pulled_on test n past)
pulled_on test n (_ ∷ past) = omega (arith, pulled_on test n past)

read_on : (test : Frame → Bool) (n : ℕ) (past : List Entry) → count (reads (on test n)) past ≡ among test (read_frames n past)
read_on test n [] = refl
read_on test n (Read s f o ∷ past) = one_stream test f (read_frames n past) (count (reads (on test n)) past) (s == n) (read_on test n past)
read_on test n (_ ∷ past) = omega (arith, read_on test n past)

-- the streams up to n are those before it, and n
order_bit : (s n : ℕ) → bit (nat_lt s (suc n)) ≡ bit (nat_lt s n) + bit (s == n)
order_bit s n =
    elim (cases_lt s n) [
      | inl earlier ↦
          omega (arith, ap bit (lt-ltb s (suc n) (omega arith)), ap bit (lt-ltb s n earlier), ap bit (ne_eqb s n (λ e. omega arith)))
      | inr late ↦
          elim (cases_eq s n) [
            | inl is ↦ omega (arith, ap bit (lt-ltb s (suc n) (omega arith)), ap bit (le-ltb s n late), ap bit (eq-eqb s n is))
            | inr other ↦ omega (arith, ap bit (le-ltb s (suc n) (omega arith)), ap bit (le-ltb s n late), ap bit (ne_eqb s n other))
          ]
    ]

below_more : (test : Frame → Bool) (n s : ℕ) (f : Frame) → bit (below test (suc n) s f) ≡ bit (below test n s f) + bit (on test n s f)
below_more test n s f = by_test (test f)
  where
    by_test : (t : Bool) → bit (t && nat_lt s (suc n)) ≡ bit (t && nat_lt s n) + bit (t && (s == n))
    by_test true = order_bit s n
    by_test false = omega arith

below_none : (test : Frame → Bool) (s : ℕ) (f : Frame) → bit (below test 0 s f) ≡ 0
below_none test s f = by_test (test f)
  where
    by_test : (t : Bool) → bit (t && nat_lt s 0) ≡ 0
    by_test true = ap bit (le-ltb s 0 (omega arith))
    by_test false = refl

few_on : (test : Frame → Bool) (n : ℕ) (a b : List Entry) → ArePeers a b → count (reads (on test n)) b ≤ count (pulls (on test n)) a
few_on test n a b peers =
    let whole = matched n a b peers in
    omega (
      arith,
      pulled_on test n a,
      read_on test n b,
      ap (among test) whole.frames,
      among_append test (read_frames n b) whole.left,
    )

few_below : (test : Frame → Bool) (a b : List Entry) → ArePeers a b → (n : ℕ) → count (reads (below test n)) b ≤ count (pulls (below test n)) a
few_below test a b peers zero = omega (arith, reads_none (below test 0) (below_none test) b)
few_below test a b peers (suc n) =
    omega (
      arith,
      pulls_split (below test (suc n)) (below test n) (on test n) (below_more test n) a,
      reads_split (below test (suc n)) (below test n) (on test n) (below_more test n) b,
      few_below test a b peers n,
      few_on test n a b peers,
    )

-- each reading is on a stream before one that isn't opened yet
reads_below : (test : Frame → Bool) (n : ℕ) (past : List Entry) → IsLegal past → newest_stream past < n →
    read test past ≤ count (reads (below test n)) past
reads_below test n [] legal newer = omega arith
reads_below test n (Open s ∷ past) legal newer =
    omega (arith, reads_below test n past legal.1 (omega (arith, newer, (lawful_open s past legal).1)))
reads_below test n (Read s f o ∷ past) legal newer =
    let is = open_is_newest past legal.1 s (lawful_read s f o legal now).on in
    omega (
      arith,
      both_bit (test f) (nat_lt s n) (lt-ltb s n (omega (arith, is, newer))),
      reads_below test n past legal.1 newer,
    )
reads_below test n (_ ∷ past) legal newer = omega (arith, reads_below test n past legal.1 newer)

pub few_read : (test : Frame → Bool) (a b : List Entry) → ArePeers a b → read test b ≤ pulled test a
few_read test a b peers =
    let n = suc (newest_stream b) in
    omega (
      arith,
      reads_below test n b peers.legal_b (omega arith),
      few_below test a b peers n,
      pulls_within (below test n) (λ s f. test f) (λ s f. first_bit (test f) (nat_lt s n)) a,
    )
