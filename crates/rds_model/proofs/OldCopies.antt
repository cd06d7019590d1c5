-- Whatever datagram was read, was passed: an old copy repeats one that was passed before.
use Rattle.std.proofs.Common.{◌≡◌, ◌⊎◌, inl, inr, ℕ, ◌≤◌, ◌==◌, ◌&&◌, true, false, List, [], ◌∷◌, sym, ◌∙◌, ap, subst, arith}
use Rattle.std.proofs.lemmas.Bool.{cases_Bool, cases_lt, and_parts, or_cases, or_left, or_right, and_from, eqb-true, leb-true, false≢true}
use Rattle.rds_wire.specs.declared.frame.Frame.{Frame}
use Rattle.rds_wire.specs.declared.header.TheConstants.{RETRANSMITTED}
use Rattle.rds_wire.specs.declared.kind.Kind.{Kind}
use Rattle.rds_wire.specs.Kinds.{carries, kind_of}
use Rattle.rds_model.specs.declared.entry.Entry.{Entry}
use Rattle.rds_model.specs.declared.entry.Entry.TheVariants.{Read}
use Rattle.rds_model.specs.declared.entry.Outcome.{Outcome}
use Rattle.rds_model.specs.Past.{Moment, number, is_datagram, carries_number, passes, last_passed}
use Rattle.rds_model.specs.Streams.{was_read, was_passed}
use Rattle.rds_model.specs.Reading.{Obeys, verdict_of_kind}
use Rattle.rds_model.specs.Legal.{IsLegal}
use Rattle.rds_model.proofs.Moments.{earlier, past_of}
use Rattle.rds_model.specs.NumberLaws.{alive_earlier}
use Rattle.rds_model.specs.LegalityLaws.{lawful_read}
use Rattle.rds_model.proofs.Outcomes.{unpassed_datagram, kind_of_datagram}
use Rattle.rds_model.proofs.Happenings.{read_as_pulled, was_read_stays, was_passed_at}
use Rattle.rds_model.proofs.Matching.{ArePeers, pull_of_read, same_order}
use Rattle.rds_model.proofs.Rise.{sent, passed_datagram}
use Rattle.rds_model.proofs.Skip.{arrival}

-- an unpassed reading of a datagram is an old copy of a number that isn't above the last passed one
old_copy : (s : ℕ) (f : Frame) (o : Outcome) {past b : List Entry} → IsLegal b → Moment (Read s f o ∷ past) b → is_datagram f ≡ true →
    passes o ≡ false → number f ≤ last_passed past
old_copy s f o {past} legal m is unpassed =
    let kind = kind_of_datagram (kind_of f.header) is in
    let obeys = subst (λ (kind : Kind). Obeys (verdict_of_kind kind past f.header) o) kind (lawful_read s f o legal m).obeys in
    let old = unpassed_datagram past f.header o unpassed obeys in
    leb-true f.header.sequence (last_passed past) (and_parts _ (carries RETRANSMITTED f.header.flags) old).0

-- Let f be an old copy of n, and g the frame by whose passing the last passed number came to be n or more. Either g is n, or n
-- was alive when g was pulled, so n was pulled before g on the stream, and read before it.
passed_or_read : (s : ℕ) (f : Frame) (o : Outcome) {past a b : List Entry} → ArePeers a b → Moment (Read s f o ∷ past) b → is_datagram f ≡ true →
    number f ≤ last_passed past → (was_passed past (number f) ≡ true) ⊎ (was_read past (number f) ≡ true)
passed_or_read s f o {past} {a} {b} peers m is within =
    let n = number f in
    let pull = pull_of_read s f o peers m in
    let this = sent s f peers.legal_a pull.at is in
    let arrived = arrival n past this.above within in
    let arrived_at = earlier arrived.at (past_of m) in
    elim (cases_lt n (number arrived.frame)) [
      | inl jumped ↦
          let g_is = (passed_datagram arrived.stream arrived.frame arrived.outcome peers.legal_b arrived_at arrived.passed).0 in
          let g_pull = pull_of_read arrived.stream arrived.frame arrived.outcome peers arrived_at in
          let g_sent = sent arrived.stream arrived.frame peers.legal_a g_pull.at g_is in
          let order = same_order arrived.stream s arrived.frame f arrived.outcome o peers arrived.at m g_pull pull in
          let alive = alive_earlier (past_of order) n (omega (arith, jumped, g_sent.within)) this.alive in
          let read = read_as_pulled arrived.stream n g_pull.past arrived.past g_pull.earlier (g_sent.least n jumped alive) in
          inr (was_read_stays (past_of arrived.at) n read)
      | inr reached ↦
          inl (was_passed_at arrived.stream arrived.frame arrived.outcome n arrived.at arrived.passed (omega (arith, reached, arrived.reaches)))
    ]

-- whatever was read, was passed
pub read_is_passed : (p a b : List Entry) → ArePeers a b → Moment p b → (n : ℕ) → was_read p n ≡ true → was_passed p n ≡ true
read_is_passed [] a b peers m n was = absurd (false≢true was)
read_is_passed (Read s f o ∷ past) a b peers m n was =
    let older = λ (read : was_read past n ≡ true). or_right (passes o && (number f == n)) (was_passed past n) (read_is_passed past a b peers (past_of m) n read) in
    elim (or_cases (carries_number n f) (was_read past n) was) [
      | inl this ↦
          let both = and_parts (is_datagram f) (number f == n) this in
          let is = eqb-true (number f) n both.1 in
          elim (cases_Bool (passes o)) [
            | inl passed ↦ or_left (passes o && (number f == n)) (was_passed past n) (and_from (passes o) (number f == n) passed both.1)
            | inr unpassed ↦
                elim (passed_or_read s f o peers m both.0 (old_copy s f o peers.legal_b m both.0 unpassed)) [
                  | inl passed ↦ or_right (passes o && (number f == n)) (was_passed past n) (ap (was_passed past) (sym is) ∙ passed)
                  | inr read ↦ older (ap (was_read past) (sym is) ∙ read)
                ]
          ]
      | inr read ↦ older read
    ]
read_is_passed (x ∷ past) a b peers m n was = read_is_passed past a b peers (past_of m) n was
