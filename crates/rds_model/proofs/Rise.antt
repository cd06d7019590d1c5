-- The numbers of the passed reads rise strictly.
use Rattle.std.proofs.Common.{◌≡◌, inl, inr, ℕ, ◌<◌, ◌≤◌, ◌==◌, nat_le, Bool, true, false, cond, Some, is_some, List, [], ◌∷◌, refl, sym, ◌∙◌, ap, arith}
use Rattle.std.proofs.lemmas.Bool.{cases_Bool, cases_lt, and_from, and_cases, eq-eqb, both_ways, leb-false, cond-true}
use Rattle.rds_wire.specs.declared.frame.Frame.{Frame}
use Rattle.rds_wire.specs.declared.header.TheConstants.{RETRANSMITTED}
use Rattle.rds_wire.specs.Kinds.{carries, is_data, kind_of}
use Rattle.rds_model.specs.declared.entry.Entry.{Entry}
use Rattle.rds_model.specs.declared.entry.Entry.TheVariants.{Pull, Read}
use Rattle.rds_model.specs.declared.entry.Outcome.{Outcome}
use Rattle.rds_model.specs.Past.{Moment, now, before, accepted, datagram, number, is_datagram, carries_number, passes, last_passed}
use Rattle.rds_model.specs.Streams.{was_pulled, pulled_on}
use Rattle.rds_model.specs.Alive.{is_alive}
use Rattle.rds_model.specs.Reading.{is_old}
use Rattle.rds_model.specs.Legal.{IsLegal, IsDataPull}
use Rattle.rds_model.proofs.Moments.{earlier, past_of}
use Rattle.rds_model.specs.NumberLaws.{number_of_known, alive_earlier}
use Rattle.rds_model.specs.LegalityLaws.{legal_at, lawful_pull, lawful_read}
use Rattle.rds_model.specs.FrameLaws.{data_pull_of, number_of_pull, retransmitted_pull}
use Rattle.rds_model.proofs.Outcomes.{passed_kind}
use Rattle.rds_model.proofs.Happenings.{was_pulled_at, was_pulled_stays, pulled_on_some}
use Rattle.rds_model.proofs.Matching.{ArePeers, pull_of_read, same_order}

-- a pulled datagram at a moment, with what makes its pull lawful
pub record Sent (s : ℕ) (f : Frame) (past : List Entry) : Type 0 where
  pub pull : IsDataPull s past f
  pub above : 0 < number f
  pub within : number f ≤ accepted past
  pub alive : is_alive past (number f) ≡ true
  pub own_number : carries_number (number f) f ≡ true
  pub once : pulled_on s past (number f) ≡ false
  pub least : (m : ℕ) → m < number f → is_alive past m ≡ true → pulled_on s past m ≡ true
  pub marked : carries RETRANSMITTED f.header.flags ≡ was_pulled past (number f)
  pub datagram_is : datagram past (number f) ≡ Some pull.d

pub sent : (s : ℕ) (f : Frame) {past j : List Entry} → IsLegal j → Moment (Pull s f ∷ past) j → is_datagram f ≡ true → Sent s f past
sent s f {past} legal m is =
    let pull = data_pull_of s past f (lawful_pull s f legal m) is in
    let number_is = number_of_pull s past f pull in
    let is_number = number_of_known past pull.n (ap is_some pull.known) in
    record {
      pull = pull;
      above = omega (arith, number_is, is_number);
      within = omega (arith, number_is, is_number);
      alive = ap (is_alive past) number_is ∙ pull.alive;
      own_number = and_from (is_datagram f) (number f == number f) is (eq-eqb (number f) (number f) refl);
      once = ap (pulled_on s past) number_is ∙ pull.once;
      least = λ m below. pull.least m (omega (arith, below, number_is));
      marked = retransmitted_pull s past f pull ∙ ap (was_pulled past) (sym number_is);
      datagram_is = ap (datagram past) number_is ∙ pull.known;
    }

-- A number that is pulled for the first time is above all that were pulled before. Were it smaller than one of those, it
-- was accepted, and so alive, when that one was pulled, and had to be pulled before it.
pub first_pull_exceeds : (s l : ℕ) (f g : Frame) {p q j : List Entry} → IsLegal j →
    Moment (Pull s f ∷ p) q → Moment (Pull l g ∷ q) j → is_datagram f ≡ true → is_datagram g ≡ true →
    was_pulled q (number g) ≡ false → number f < number g
first_pull_exceeds s l f g {p} {q} legal m n is_f is_g first =
    let older = sent s f (legal_at (past_of n) legal) m is_f in
    let newer = sent l g legal n is_g in
    elim (cases_lt (number f) (number g)) [
      | inl above ↦ above
      | inr not_above ↦
          let alive = alive_earlier (past_of m) (number g) (omega (arith, not_above, older.within)) newer.alive in
          elim (cases_lt (number g) (number f)) [
            | inl below ↦
                let on = older.least (number g) below alive in
                absurd (both_ways _ first (was_pulled_stays (past_of m) (number g) (pulled_on_some s p (number g) on)))
            | inr not_below ↦
                let same : number g ≡ number f = omega arith in
                absurd (both_ways _ first (ap (was_pulled q) same ∙ was_pulled_at s f (number f) m older.own_number))
          ]
    ]

-- a passed reading
pub record PassedAt (n : ℕ) (j : List Entry) : Type 0 where
  pub stream : ℕ
  pub frame : Frame
  pub outcome : Outcome
  pub past : List Entry
  pub at : Moment (Read stream frame outcome ∷ past) j
  pub passed : passes outcome ≡ true
  pub is : number frame ≡ n

pub passed_before : (n : ℕ) (e : Entry) (past : List Entry) → PassedAt n past → PassedAt n (e ∷ past)
passed_before n e past r = record {
  stream = r.stream;
  frame = r.frame;
  outcome = r.outcome;
  past = r.past;
  at = before r.at;
  passed = r.passed;
  is = r.is;
}

-- the last passed number was passed, where it isn't 0
pub last_was_passed : (j : List Entry) → 0 < last_passed j → PassedAt (last_passed j) j
last_was_passed [] above = absurd (omega arith)
last_was_passed (Read stream frame outcome ∷ past) above = by_outcome (passes outcome) refl above (last_was_passed past)
  where
    by_outcome : (b : Bool) → passes outcome ≡ b → 0 < cond b (number frame) (last_passed past) →
        (0 < last_passed past → PassedAt (last_passed past) past) →
        PassedAt (cond b (number frame) (last_passed past)) (Read stream frame outcome ∷ past)
    by_outcome true passed above older =
        record { stream = stream; frame = frame; outcome = outcome; past = past; at = now; passed = passed; is = refl }
    by_outcome false passed above older = passed_before (last_passed past) (Read stream frame outcome) past (older above)
last_was_passed (x ∷ past) above = passed_before (last_passed past) x past (last_was_passed past above)

-- a passed frame is a datagram, and no old copy
pub passed_datagram : (s : ℕ) (f : Frame) (o : Outcome) {past b : List Entry} → IsLegal b → Moment (Read s f o ∷ past) b →
    passes o ≡ true → (is_datagram f ≡ true) × (is_old past f.header ≡ false)
passed_datagram s f o {past} legal m passed =
    let kind = passed_kind (kind_of f.header) past f.header o passed (lawful_read s f o legal m).obeys in
    (ap is_data kind.0, kind.1)

-- A marked frame is passed only above the last passed number. An unmarked one is pulled for the first time, so it is above
-- all that were pulled before, among them the last passed one.
pub rise : (s : ℕ) (f : Frame) (o : Outcome) {past a b : List Entry} → ArePeers a b → Moment (Read s f o ∷ past) b →
    passes o ≡ true → last_passed past < number f
rise s f o {past} peers m passed =
    let fresh = passed_datagram s f o peers.legal_b m passed in
    let pull = pull_of_read s f o peers m in
    let this = sent s f peers.legal_a pull.at fresh.0 in
    elim (cases_Bool (carries RETRANSMITTED f.header.flags)) [
      | inl marked ↦
          elim (and_cases (nat_le f.header.sequence (last_passed past)) (carries RETRANSMITTED f.header.flags) fresh.1) [
            | inl above ↦ leb-false f.header.sequence (last_passed past) above
            | inr unmarked ↦ absurd (both_ways _ unmarked marked)
          ]
      | inr unmarked ↦
          elim (cases_lt 0 (last_passed past)) [
            | inl some ↦
                let last = last_was_passed past some in
                let last_at = earlier last.at (past_of m) in
                let last_pull = pull_of_read last.stream last.frame last.outcome peers last_at in
                let order = same_order last.stream s last.frame f last.outcome o peers last.at m last_pull pull in
                let kind = (passed_datagram last.stream last.frame last.outcome peers.legal_b last_at last.passed).0 in
                let exceeds =
                first_pull_exceeds last.stream s last.frame f peers.legal_a order pull.at kind fresh.0 (sym this.marked ∙ unmarked) in
                omega (arith, exceeds, last.is)
            | inr none ↦ omega (arith, none, this.above)
          ]
    ]

-- the last passed number never falls
last_step : (e : Entry) {past a b : List Entry} → ArePeers a b → Moment (e ∷ past) b → last_passed past ≤ last_passed (e ∷ past)
last_step (Read s f o) {past} peers m = by_outcome (passes o) refl
  where
    by_outcome : (b : Bool) → passes o ≡ b → last_passed past ≤ cond b (number f) (last_passed past)
    by_outcome true passed = omega (arith, rise s f o peers m passed)
    by_outcome false unpassed = omega arith
last_step _ peers m = omega arith

pub last_passed_grows : {p q a b : List Entry} → ArePeers a b → Moment p q → Moment q b → last_passed p ≤ last_passed q
last_passed_grows peers now n = omega arith
last_passed_grows peers (before {e} {j} m) n = omega (arith, last_step e peers n, last_passed_grows peers m (past_of n))

-- what was passed is at most the last passed number
pub passed_bounds : (s : ℕ) (f : Frame) (o : Outcome) {p q a b : List Entry} → ArePeers a b → Moment (Read s f o ∷ p) q → Moment q b →
    passes o ≡ true → number f ≤ last_passed q
passed_bounds s f o {p} peers m n passed =
    let here = last_passed_grows peers m n in
    omega (arith, here, cond-true (passes o) (number f) (last_passed p) passed)
