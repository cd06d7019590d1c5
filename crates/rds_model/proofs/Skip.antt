-- What becomes of a number that the receiver skips.
use Rattle.std.proofs.Common.{◌≡◌, ◌⊎◌, inl, inr, ℕ, ◌<◌, ◌≤◌, Bool, true, false, cond, List, [], ◌∷◌, refl, arith}
use Rattle.std.proofs.lemmas.Bool.{cases_Bool, cases_lt}
use Rattle.rds_wire.specs.declared.frame.Frame.{Frame}
use Rattle.rds_model.specs.declared.entry.Entry.{Entry}
use Rattle.rds_model.specs.declared.entry.Entry.TheVariants.{Pull, Read}
use Rattle.rds_model.specs.declared.entry.Outcome.{Outcome}
use Rattle.rds_model.specs.Past.{Moment, now, before, number, passes, last_passed, highest_ack}
use Rattle.rds_model.specs.Streams.{read_frames, was_read}
use Rattle.rds_model.specs.Alive.{is_alive, was_taken_back}
use Rattle.rds_model.proofs.Moments.{earlier, past_of, of_two_entries, InOrder, first, second, same}
use Rattle.rds_model.specs.NumberLaws.{acknowledges_itself, known_of_number, alive_parts, acked_grows}
use Rattle.rds_model.proofs.Frames.{PulledAfter}
use Rattle.rds_model.specs.LegalityLaws.{lawful_pull}
use Rattle.rds_model.specs.FrameLaws.{pull_acknowledges}
use Rattle.rds_model.proofs.Happenings.{read_as_pulled}
use Rattle.rds_model.proofs.Matching.{ArePeers, other_way, pull_of_read}
use Rattle.rds_model.proofs.Rise.{Sent, sent, passed_datagram, last_passed_grows, passed_bounds}
use Rattle.rds_model.specs.EndingLaws.{ended, taken_stays, acknowledged_at, AcknowledgedAt}

-- the passed reading by which the last passed number came to be n or more
pub record Arrival (n : ℕ) (j : List Entry) : Type 0 where
  pub stream : ℕ
  pub frame : Frame
  pub outcome : Outcome
  pub past : List Entry
  pub at : Moment (Read stream frame outcome ∷ past) j
  pub passed : passes outcome ≡ true
  pub below : last_passed past < n
  pub reaches : n ≤ number frame

arrival_before : (n : ℕ) (e : Entry) (past : List Entry) → Arrival n past → Arrival n (e ∷ past)
arrival_before n e past r = record {
  stream = r.stream;
  frame = r.frame;
  outcome = r.outcome;
  past = r.past;
  at = before r.at;
  passed = r.passed;
  below = r.below;
  reaches = r.reaches;
}

pub arrival : (n : ℕ) (j : List Entry) → 0 < n → n ≤ last_passed j → Arrival n j
arrival n [] above within = absurd (omega arith)
arrival n (Read stream frame outcome ∷ past) above within = by_outcome (passes outcome) refl within (arrival n past above) (cases_lt (last_passed past) n)
  where
    by_outcome : (b : Bool) → passes outcome ≡ b → n ≤ cond b (number frame) (last_passed past) →
        (n ≤ last_passed past → Arrival n past) → (last_passed past < n) ⊎ (n ≤ last_passed past) →
        Arrival n (Read stream frame outcome ∷ past)
    by_outcome true passed within older (inl below) = record {
      stream = stream;
      frame = frame;
      outcome = outcome;
      past = past;
      at = now;
      passed = passed;
      below = below;
      reaches = within;
    }
    by_outcome true passed within older (inr already) = arrival_before n (Read stream frame outcome) past (older already)
    by_outcome false passed within older _ = arrival_before n (Read stream frame outcome) past (older within)
arrival n (x ∷ past) above within = arrival_before n x past (arrival n past above within)

-- No acknowledgement frees a skipped number. Let f be passed over n, and let A have read, before it pulled f, a frame g that
-- acknowledges n. If B pulled g before it read f, then g acknowledges at most the last passed number, which is below n. If B
-- pulled g after it, then g acknowledges f too, and A couldn't have pulled f.
not_freed_by : (s : ℕ) (f : Frame) (o : Outcome) {p sender a b : List Entry} → ArePeers a b → Moment (Read s f o ∷ p) b → passes o ≡ true →
    Sent s f sender → (n : ℕ) → last_passed p < n → (freed : AcknowledgedAt n sender) →
    (reply : PulledAfter freed.stream (read_frames freed.stream freed.past) freed.frame b) →
    InOrder (Pull freed.stream freed.frame) reply.past (Read s f o) p → ⊥
not_freed_by s f o {p} peers m passed this n below freed reply (first earlier_reply) =
    let acknowledges = pull_acknowledges freed.stream reply.past freed.frame (lawful_pull freed.stream freed.frame peers.legal_b reply.at) in
    omega (arith, acknowledges, freed.enough, below, last_passed_grows peers (past_of earlier_reply) (past_of m))
not_freed_by s f o {p} {sender} peers m passed this n below freed reply (second later_reply) =
    let acknowledges = pull_acknowledges freed.stream reply.past freed.frame (lawful_pull freed.stream freed.frame peers.legal_b reply.at) in
    let bound = passed_bounds s f o peers later_reply (past_of reply.at) passed in
    let itself = acknowledges_itself freed.stream freed.frame freed.outcome freed.past in
    let alive = alive_parts sender (number f) this.alive in
    omega (arith, acknowledges, bound, itself, acked_grows freed.at, alive.unacknowledged)
not_freed_by s f o peers m passed this n below freed reply (same is is_past) = cc

not_freed : (s : ℕ) (f : Frame) (o : Outcome) {p sender a b : List Entry} → ArePeers a b → Moment (Read s f o ∷ p) b → passes o ≡ true →
    Moment (Pull s f ∷ sender) a → Sent s f sender → (n : ℕ) → 0 < n → last_passed p < n → n ≤ highest_ack sender → ⊥
not_freed s f o {p} {sender} {a} {b} peers m passed pulled this n above below enough =
    let freed = acknowledged_at n sender above enough in
    let reply = pull_of_read freed.stream freed.frame freed.outcome (other_way a b peers) (earlier freed.at (past_of pulled)) in
    not_freed_by s f o peers m passed this n below freed reply (of_two_entries reply.at m)

-- A skipped number was read earlier on the stream, or was taken back: when the frame that is passed over it was pulled, it was
-- accepted. If it was alive then, it was pulled earlier on the stream; and if it wasn't, no acknowledgement freed it.
pub skipped : (s : ℕ) (f : Frame) (o : Outcome) {p a b : List Entry} → ArePeers a b → Moment (Read s f o ∷ p) b → passes o ≡ true →
    (n : ℕ) → last_passed p < n → n < number f → (was_read p n ≡ true) ⊎ (was_taken_back a n ≡ true)
skipped s f o {p} peers m passed n below above =
    let is = (passed_datagram s f o peers.legal_b m passed).0 in
    let pull = pull_of_read s f o peers m in
    let this = sent s f peers.legal_a pull.at is in
    elim (cases_Bool (is_alive pull.past n)) [
      | inl alive ↦ inl (read_as_pulled s n pull.past p pull.earlier (this.least n above alive))
      | inr dead ↦
          let known = known_of_number pull.past n (omega (arith, below)) (omega (arith, above, this.within)) in
          elim (ended pull.past n known dead) [
            | inl taken ↦ inr (taken_stays (past_of pull.at) n taken)
            | inr enough ↦ absurd (not_freed s f o peers m passed pull.at this n (omega (arith, below)) below enough)
          ]
    ]
