-- That a number was pulled, read or passed, and the moment at which it was.
use Rattle.std.proofs.Common.{◌≡◌, inl, inr, ℕ, ◌==◌, ◌&&◌, true, List, [], ◌∷◌, refl, sym, ◌∙◌, subst}
use Rattle.std.proofs.lemmas.Bool.{and_parts, and_from, or_cases, or_left, or_right, eqb-true, eq-eqb, false≢true}
use Rattle.rds_wire.specs.declared.frame.Frame.{Frame}
use Rattle.rds_model.specs.declared.entry.Entry.{Entry}
use Rattle.rds_model.specs.declared.entry.Entry.TheVariants.{Pull, Read}
use Rattle.rds_model.specs.declared.entry.Outcome.{Outcome}
use Rattle.rds_model.specs.Past.{Moment, now, before, carries_number, number, passes}
use Rattle.rds_model.specs.Streams.{pulled_frames, read_frames, pulled_on, was_pulled, was_read, was_passed}
use Rattle.rds_model.proofs.Frames.{pull_begins, read_moment}

-- what happened once, has happened at every later moment
pulled_step : (e : Entry) (past : List Entry) (n : ℕ) → was_pulled past n ≡ true → was_pulled (e ∷ past) n ≡ true
pulled_step (Pull stream frame) past n was = or_right (carries_number n frame) _ was
pulled_step _ past n was = was

pub was_pulled_stays : {p j : List Entry} → Moment p j → (n : ℕ) → was_pulled p n ≡ true → was_pulled j n ≡ true
was_pulled_stays now n was = was
was_pulled_stays (before {e} {j} m) n was = pulled_step e j n (was_pulled_stays m n was)

read_step : (e : Entry) (past : List Entry) (n : ℕ) → was_read past n ≡ true → was_read (e ∷ past) n ≡ true
read_step (Read stream frame outcome) past n was = or_right (carries_number n frame) _ was
read_step _ past n was = was

pub was_read_stays : {p j : List Entry} → Moment p j → (n : ℕ) → was_read p n ≡ true → was_read j n ≡ true
was_read_stays now n was = was
was_read_stays (before {e} {j} m) n was = read_step e j n (was_read_stays m n was)

passed_step : (e : Entry) (past : List Entry) (n : ℕ) → was_passed past n ≡ true → was_passed (e ∷ past) n ≡ true
passed_step (Read stream frame outcome) past n was = or_right (passes outcome && (number frame == n)) _ was
passed_step _ past n was = was

pub was_passed_stays : {p j : List Entry} → Moment p j → (n : ℕ) → was_passed p n ≡ true → was_passed j n ≡ true
was_passed_stays now n was = was
was_passed_stays (before {e} {j} m) n was = passed_step e j n (was_passed_stays m n was)

-- by the moment of a pull, or of a passed reading
pub was_pulled_at : (s : ℕ) (f : Frame) (n : ℕ) {p j : List Entry} → Moment (Pull s f ∷ p) j → carries_number n f ≡ true → was_pulled j n ≡ true
was_pulled_at s f n {p} m carries = was_pulled_stays m n (or_left (carries_number n f) (was_pulled p n) carries)

pub was_passed_at : (s : ℕ) (f : Frame) (o : Outcome) (n : ℕ) {p j : List Entry} → Moment (Read s f o ∷ p) j → passes o ≡ true → number f ≡ n →
    was_passed j n ≡ true
was_passed_at s f o n {p} m passed is =
    was_passed_stays m n
    (or_left (passes o && (number f == n)) (was_passed p n) (and_from (passes o) (number f == n) passed (eq-eqb (number f) n is)))

pub was_read_at : (s : ℕ) (f : Frame) (o : Outcome) (n : ℕ) {p j : List Entry} → Moment (Read s f o ∷ p) j → carries_number n f ≡ true →
    was_read j n ≡ true
was_read_at s f o n {p} m carries = was_read_stays m n (or_left (carries_number n f) (was_read p n) carries)

pulled_on_step : (s : ℕ) (e : Entry) (past : List Entry) (n : ℕ) → pulled_on s past n ≡ true → pulled_on s (e ∷ past) n ≡ true
pulled_on_step s (Pull stream frame) past n was = or_right (stream == s && carries_number n frame) _ was
pulled_on_step s _ past n was = was

pub pulled_on_at : (s n : ℕ) (f : Frame) {p j : List Entry} → Moment (Pull s f ∷ p) j → carries_number n f ≡ true → pulled_on s j n ≡ true
pulled_on_at s n f {p} now carries =
    or_left (s == s && carries_number n f) (pulled_on s p n) (and_from (s == s) (carries_number n f) (eq-eqb s s refl) carries)
pulled_on_at s n f (before {e} {j} m) carries = pulled_on_step s e j n (pulled_on_at s n f m carries)

-- pulled on one stream is pulled
pub pulled_on_some : (s : ℕ) (p : List Entry) (n : ℕ) → pulled_on s p n ≡ true → was_pulled p n ≡ true
pulled_on_some s [] n on = on
pulled_on_some s (Pull stream frame ∷ past) n on =
    elim (or_cases (stream == s && carries_number n frame) (pulled_on s past n) on) [
      | inl this ↦ or_left (carries_number n frame) (was_pulled past n) (and_parts (stream == s) (carries_number n frame) this).1
      | inr older ↦ or_right (carries_number n frame) (was_pulled past n) (pulled_on_some s past n older)
    ]
pulled_on_some s (_ ∷ past) n on = pulled_on_some s past n on

-- the reading of a number
pub record ReadingOf (n : ℕ) (j : List Entry) : Type 0 where
  pub stream : ℕ
  pub frame : Frame
  pub outcome : Outcome
  pub past : List Entry
  pub at : Moment (Read stream frame outcome ∷ past) j
  pub carries : carries_number n frame ≡ true

reading_before : (n : ℕ) (e : Entry) (past : List Entry) → ReadingOf n past → ReadingOf n (e ∷ past)
reading_before n e past r =
    record { stream = r.stream; frame = r.frame; outcome = r.outcome; past = r.past; at = before r.at; carries = r.carries }

pub reading_of : (n : ℕ) (j : List Entry) → was_read j n ≡ true → ReadingOf n j
reading_of n [] was = absurd (false≢true was)
reading_of n (Read stream frame outcome ∷ past) was =
    elim (or_cases (carries_number n frame) (was_read past n) was) [
      | inl this ↦ record { stream = stream; frame = frame; outcome = outcome; past = past; at = now; carries = this }
      | inr older ↦ reading_before n (Read stream frame outcome) past (reading_of n past older)
    ]
reading_of n (x ∷ past) was = reading_before n x past (reading_of n past was)

-- the pull of a number on a stream
pub record PullOf (s n : ℕ) (j : List Entry) : Type 0 where
  pub frame : Frame
  pub past : List Entry
  pub at : Moment (Pull s frame ∷ past) j
  pub carries : carries_number n frame ≡ true

pull_before : (s n : ℕ) (e : Entry) (past : List Entry) → PullOf s n past → PullOf s n (e ∷ past)
pull_before s n e past p = record { frame = p.frame; past = p.past; at = before p.at; carries = p.carries }

pub pull_of : (s n : ℕ) (j : List Entry) → pulled_on s j n ≡ true → PullOf s n j
pull_of s n [] was = absurd (false≢true was)
pull_of s n (Pull stream frame ∷ past) was =
    elim (or_cases (stream == s && carries_number n frame) (pulled_on s past n) was) [
      | inl this ↦
          let both = and_parts (stream == s) (carries_number n frame) this in
          record {
            frame = frame;
            past = past;
            at = subst (λ (y : ℕ). Moment (Pull y frame ∷ past) (Pull stream frame ∷ past)) (eqb-true stream s both.0) now;
            carries = both.1;
          }
      | inr older ↦ pull_before s n (Pull stream frame) past (pull_of s n past older)
    ]
pull_of s n (x ∷ past) was = pull_before s n x past (pull_of s n past was)

-- where the frames of a stream that one end pulled are those that the other read, their numbers were read
pub read_as_pulled : (s n : ℕ) (p q : List Entry) → pulled_frames s p ≡ read_frames s q → pulled_on s p n ≡ true → was_read q n ≡ true
read_as_pulled s n p q same on =
    let pull = pull_of s n p on in
    let begins = pull_begins s pull.frame pull.at in
    let reading = read_moment s q (pulled_frames s pull.past) pull.frame begins.0 (sym same ∙ begins.1) in
    was_read_at s pull.frame reading.outcome n reading.at pull.carries
