-- First in, first out, and each once.
use Rattle.std.proofs.Common.{◌≡◌, ◌⊎◌, inl, inr, ℕ, ◌<◌, ◌≤◌, ◌==◌, true, Some, List, ◌∷◌, refl, ◌∙◌, ap, arith}
use Rattle.std.proofs.lemmas.Bool.{cases_lt, and_parts, and_from, or_left, eq-eqb, eqb-true, both_ways, false_from_ne_true}
use Rattle.rds_wire.specs.declared.frame.Frame.{Frame}
use Rattle.rds_wire.specs.Kinds.{is_data, kind_of}
use Rattle.rds_model.specs.declared.entry.Entry.{Entry}
use Rattle.rds_model.specs.declared.entry.Entry.TheVariants.{Read}
use Rattle.rds_model.specs.declared.entry.Outcome.{Outcome}
use Rattle.rds_model.specs.declared.entry.Outcome.TheVariants as outcome
use Rattle.rds_model.specs.Past.{Moment, Accepted, datagram, number, is_datagram, carries_number, last_passed}
use Rattle.rds_model.specs.Streams.{was_read, was_passed}
use Rattle.rds_model.specs.Alive.{is_cancelled, covers, was_taken_back, was_taken_back_unbegun}
use Rattle.rds_model.specs.Fifo.{Carries, IsFifo}
use Rattle.rds_model.proofs.Moments.{past_of, of_two_entries, first, second, same}
use Rattle.rds_model.specs.NumberLaws.{datagram_stays, alive_parts, cancelled_stays}
use Rattle.rds_model.specs.LegalityLaws.{lawful_read}
use Rattle.rds_model.specs.FrameLaws.{ports_of_data}
use Rattle.rds_model.proofs.Outcomes.{old_kind}
use Rattle.rds_model.proofs.Happenings.{was_passed_stays, was_passed_at, was_pulled_at, reading_of}
use Rattle.rds_model.proofs.Matching.{ArePeers, pull_of_read}
use Rattle.rds_model.proofs.Rise.{sent, rise, passed_datagram}
use Rattle.rds_model.specs.EndingLaws.{taken_unbegun}
use Rattle.rds_model.proofs.Skip.{arrival, skipped}
use Rattle.rds_model.proofs.OldCopies.{read_is_passed}

-- a datagram that was read is the one that was accepted under its number
pub read_was_accepted : (s : ℕ) (f : Frame) (o : Outcome) {past a b : List Entry} → ArePeers a b → Moment (Read s f o ∷ past) b →
    is_datagram f ≡ true → (d : Accepted) × (datagram a (number f) ≡ Some d) × Carries f d
read_was_accepted s f o {past} {a} peers m is =
    let pull = pull_of_read s f o peers m in
    let this = sent s f peers.legal_a pull.at is in
    let d = this.pull.d in
    let ports = ports_of_data s pull.past this.pull.n d in
    let carries : Carries f d = record {
      sport = ap (λ (g : Frame). g.header.sport) this.pull.is ∙ ports.0;
      dport = ap (λ (g : Frame). g.header.dport) this.pull.is ∙ ports.1;
      payload = ap (λ (g : Frame). g.payload) this.pull.is;
    } in
    (d, datagram_stays (past_of pull.at) (number f) d this.datagram_is, carries)

-- no number is lost but those that were taken back
pub none_is_lost : (a b : List Entry) → ArePeers a b → (n : ℕ) → 0 < n → n ≤ last_passed b →
    (was_passed b n ≡ true) ⊎ (was_taken_back a n ≡ true)
none_is_lost a b peers n above within =
    let arrived = arrival n b above within in
    elim (cases_lt n (number arrived.frame)) [
      | inl jumped ↦
          elim (skipped arrived.stream arrived.frame arrived.outcome peers arrived.at arrived.passed n arrived.below jumped) [
            | inl read ↦
                inl (was_passed_stays (past_of arrived.at) n (read_is_passed arrived.past a b peers (past_of arrived.at) n read))
            | inr taken ↦ inr taken
          ]
      | inr reached ↦
          inl (was_passed_at arrived.stream arrived.frame arrived.outcome n arrived.at arrived.passed (omega (arith, reached, arrived.reaches)))
    ]

-- a number that was taken back before its first pull is never pulled, so it isn't read
pub unbegun_is_unread : (a b : List Entry) → ArePeers a b → (n : ℕ) → was_taken_back_unbegun a n ≡ true → was_read b n ≡ true → ⊥
unbegun_is_unread a b peers n was read =
    let taken = taken_unbegun n a was in
    let reading = reading_of n b read in
    let both = and_parts (is_datagram reading.frame) (number reading.frame == n) reading.carries in
    let is = eqb-true (number reading.frame) n both.1 in
    let pull = pull_of_read reading.stream reading.frame reading.outcome peers reading.at in
    let this = sent reading.stream reading.frame peers.legal_a pull.at both.0 in
    elim (of_two_entries pull.at taken.at) [
      | first pulled ↦ both_ways _ taken.unpulled (was_pulled_at reading.stream reading.frame n pulled reading.carries)
      | second cancelled ↦
          let covered = or_left (covers taken.slot taken.target (datagram taken.past n)) (is_cancelled taken.past n) taken.covered in
          let alive = alive_parts pull.past (number reading.frame) this.alive in
          both_ways _ alive.kept (ap (is_cancelled pull.past) is ∙ cancelled_stays cancelled n covered)
      | same is is_past ↦ absurd (cc)
    ]

-- an old copy repeats a datagram that was passed before
pub old_was_passed : (s : ℕ) (f : Frame) {past a b : List Entry} → ArePeers a b → Moment (Read s f outcome.Old ∷ past) b →
    was_passed past (number f) ≡ true
old_was_passed s f {past} {a} {b} peers m =
    let kind = old_kind (kind_of f.header) past f.header (lawful_read s f outcome.Old peers.legal_b m).obeys in
    let carries = and_from (is_datagram f) (number f == number f) (ap is_data kind) (eq-eqb (number f) (number f) refl) in
    read_is_passed (Read s f outcome.Old ∷ past) a b peers m (number f)
    (or_left (carries_number (number f) f) (was_read past (number f)) carries)

pub fifo : (a b : List Entry) → ArePeers a b → IsFifo a b
fifo a b peers = record {
  rise = λ s f o past m passed. rise s f o peers m passed;
  accepted = λ s f o past m passed. read_was_accepted s f o peers m (passed_datagram s f o peers.legal_b m passed).0;
  none_lost = none_is_lost a b peers;
  unbegun = λ n was. false_from_ne_true (was_read b n) (unbegun_is_unread a b peers n was);
  repeated = λ s f past m. old_was_passed s f peers m;
}
