-- Pongs are no more than the datagrams that the peer's sockets sent: each answers a ping that was read, no two of these have
-- one number, and a ping is no pong, since it comes from a port other than 0.
use Rattle.std.proofs.Common.{◌≡◌, inl, inr, ℕ, zero, suc, ◌+◌, ◌≤◌, ◌==◌, ◌&&◌, not, Bool, true, false, cond, Option, Some, None, MatchOption, List, [], ◌∷◌, length, refl, sym, ◌∙◌, ap, subst, arith}
use Rattle.std.proofs.lemmas.Bool.{cases_eq, eq-eqb, ne_eqb, both_ways, cases_Bool, cond-true, not_from_false}
use Rattle.rds_wire.specs.declared.frame.Frame.{Frame}
use Rattle.rds_wire.specs.declared.header.Header.{Header}
use Rattle.rds_wire.specs.declared.kind.Kind.{Kind}
use Rattle.rds_wire.specs.declared.kind.Kind.TheVariants.{Data, Ack, Map, OddMap}
use Rattle.rds_wire.specs.Kinds.{kind_of}
use Rattle.rds_model.specs.declared.entry.Entry.{Entry}
use Rattle.rds_model.specs.declared.entry.Entry.TheVariants.{Accept, Read}
use Rattle.rds_model.specs.declared.entry.Outcome.{Outcome}
use Rattle.rds_model.specs.declared.entry.Outcome.TheVariants as outcome
use Rattle.rds_model.specs.declared.entry.Verdict.TheVariants as verdict
use Rattle.rds_model.specs.declared.entry.TheConstants.{NO_SLOT}
use Rattle.rds_model.specs.Past.{Moment, now, before, Accepted, accepted, datagram, number, passes, last_passed}
use Rattle.rds_model.specs.Reading.{is_old, verdict_of_kind, Obeys}
use Rattle.rds_model.specs.Legal.{IsLegal, IsLawful, IsPong, pong_for, pong_to}
use Rattle.rds_model.specs.NumberLaws.{datagram_newest, datagram_other}
use Rattle.rds_model.specs.LegalityLaws.{lawful_read}
use Rattle.rds_model.proofs.Moments.{past_of}
use Rattle.rds_model.proofs.Matching.{ArePeers}
use Rattle.rds_model.proofs.Rise.{rise, passed_datagram, last_passed_grows}
use Rattle.rds_model.proofs.Fifo.{read_was_accepted}
use Rattle.rds_model.proofs.Counts.{bit, small_bit, count, count_to, count_to_sum, count_to_one, count_to_grows, count_to_more}

-- the entry is the acceptance of a pong, or of a datagram from a socket
abbrev pub is_pong : Entry → Bool
is_pong (Accept slot sport dport payload) = slot == NO_SLOT
is_pong _ = false

abbrev pub is_send : Entry → Bool
is_send (Accept slot sport dport payload) = not (slot == NO_SLOT)
is_send _ = false

-- the entry is the reading of a ping
abbrev is_ping_outcome : Outcome → Bool
is_ping_outcome outcome.Ping = true
is_ping_outcome _ = false

abbrev is_ping : Entry → Bool
is_ping (Read stream frame came) = is_ping_outcome came
is_ping _ = false

-- each pong answers a ping
abbrev owed : Option ℕ → ℕ
owed None = 0
owed (Some port) = 1

pong_bit : (past : List Entry) (slot sport dport : ℕ) (payload : List ℕ) (o : Option ℕ) →
    MatchOption o (IsLawful past (Accept slot sport dport payload)) (λ port. IsPong past port (Accept slot sport dport payload)) →
    bit (slot == NO_SLOT) ≤ owed o
pong_bit past slot sport dport payload None lawful = omega (arith, ap bit (ne_eqb slot NO_SLOT lawful.socket))
pong_bit past slot sport dport payload (Some port) pong = small_bit (slot == NO_SLOT)

owed_bit : (o : Outcome) (port : ℕ) → owed (pong_for o port) ≤ bit (is_ping_outcome o)
owed_bit outcome.Ping port = omega arith
owed_bit _ port = omega arith

pongs_answer : (past : List Entry) → IsLegal past → count is_pong past + owed (pong_to past) ≤ count is_ping past
pongs_answer [] legal = omega arith
pongs_answer (Accept slot sport dport payload ∷ past) legal =
    omega (arith, pongs_answer past legal.1, pong_bit past slot sport dport payload (pong_to past) legal.0)
pongs_answer (Read stream frame came ∷ past) legal =
    omega (arith, pongs_answer past legal.1, owed_bit came frame.header.sport)
pongs_answer (_ ∷ past) legal = omega (arith, pongs_answer past legal.1)

-- a ping comes from a port other than 0
ping_port : (kind : Kind) (past : List Entry) (h : Header) → Obeys (verdict_of_kind kind past h) outcome.Ping → (h.sport == 0) ≡ false
ping_port Map past h obeys = cc
ping_port OddMap past h obeys = cc
ping_port Ack past h obeys = cc
ping_port Data past h obeys = by_ports (is_old past h) (h.dport == 0) (h.sport == 0) obeys
  where
    by_ports : (old to_0 from_0 : Bool) →
        Obeys (cond old verdict.Old (cond to_0 (cond from_0 verdict.Void verdict.Ping) (verdict.Deliver h.dport))) outcome.Ping → from_0 ≡ false
    by_ports true to_0 from_0 obeys = cc
    by_ports false true true obeys = cc
    by_ports false true false obeys = refl
    by_ports false false from_0 obeys = absurd obeys

-- the datagram is one that a socket sent
abbrev was_sent : Option Accepted → Bool
was_sent None = false
was_sent (Some d) = not (d.slot == NO_SLOT)

-- a datagram of no socket is a pong, so it comes from port 0
pong_is_from_0 : (past : List Entry) (slot sport dport : ℕ) (payload : List ℕ) (o : Option ℕ) →
    MatchOption o (IsLawful past (Accept slot sport dport payload)) (λ port. IsPong past port (Accept slot sport dport payload)) →
    (sport ≡ 0 → ⊥) → not (slot == NO_SLOT) ≡ true
pong_is_from_0 past slot sport dport payload None lawful other = not_from_false (slot == NO_SLOT) (ne_eqb slot NO_SLOT lawful.socket)
pong_is_from_0 past slot sport dport payload (Some port) pong other =
    let is = pong.is in
    let from : sport ≡ 0 = cc in
    absurd (other from)

sent_by_socket : (past : List Entry) (n : ℕ) (d : Accepted) → IsLegal past → datagram past n ≡ Some d → (d.sport ≡ 0 → ⊥) →
    was_sent (Some d) ≡ true
sent_by_socket [] n d legal known other = cc
sent_by_socket (Accept slot from to payload ∷ past) n d legal known other =
    elim (cases_eq n (suc (accepted past))) [
      | inl newest ↦
          let here : Some (record { place = length past; slot = slot; sport = from; dport = to; payload = payload }) ≡ Some d =
          sym (datagram_newest slot from to payload past n newest) ∙ known in
          let is : record { place = length past; slot = slot; sport = from; dport = to; payload = payload } ≡ d = cc in
          ap (λ (x : Accepted). not (x.slot == NO_SLOT)) (sym is)
          ∙ pong_is_from_0 past slot from to payload (pong_to past) legal.0 (λ e. other (sym (ap (λ (x : Accepted). x.sport) is) ∙ e))
      | inr older ↦ sent_by_socket past n d legal.1 (sym (datagram_other slot from to payload past n older) ∙ known) other
    ]
sent_by_socket (_ ∷ past) n d legal known other = sent_by_socket past n d legal.1 known other

-- the numbers of these are no more than their acceptances
newest_bit : (b : Bool) (d : Accepted) (older : Option Accepted) →
    bit (was_sent (cond b (Some d) older)) ≤ bit (was_sent older) + bit (b && not (d.slot == NO_SLOT))
newest_bit true d older = omega arith
newest_bit false d older = omega arith

few_numbers : (n : ℕ) (past : List Entry) → count_to n (λ k. was_sent (datagram past k)) ≤ count is_send past
few_numbers n [] = none n
  where
    none : (n : ℕ) → count_to n (λ k. false) ≤ 0
    none zero = omega arith
    none (suc n) = omega (arith, none n)
few_numbers n (Accept slot from to payload ∷ past) =
    let d : Accepted = record { place = length past; slot = slot; sport = from; dport = to; payload = payload } in
    omega (
      arith,
      count_to_sum n (λ k. was_sent (datagram (Accept slot from to payload ∷ past) k)) (λ k. was_sent (datagram past k))
          (λ k. (k == suc (accepted past)) && not (slot == NO_SLOT)) (λ k. newest_bit (k == suc (accepted past)) d (datagram past k)),
      count_to_one (not (slot == NO_SLOT)) (suc (accepted past)) n,
      few_numbers n past,
    )
few_numbers n (_ ∷ past) = omega (arith, few_numbers n past)

-- the number of a ping that was read is that of a datagram which a socket sent
ping_was_sent : (s : ℕ) (f : Frame) {past a b : List Entry} → ArePeers a b → Moment (Read s f outcome.Ping ∷ past) b →
    was_sent (datagram a (number f)) ≡ true
ping_was_sent s f {past} {a} peers m =
    let fresh = passed_datagram s f outcome.Ping peers.legal_b m refl in
    let origin = read_was_accepted s f outcome.Ping peers m fresh.0 in
    let port = ping_port (kind_of f.header) past f.header (lawful_read s f outcome.Ping peers.legal_b m).obeys in
    ap was_sent origin.1
    ∙ sent_by_socket a (number f) origin.0 peers.legal_a origin.1 (λ e. both_ways _ port (eq-eqb f.header.sport 0 (origin.2.sport ∙ e)))

is_ping_of : (o : Outcome) → is_ping_outcome o ≡ true → o ≡ outcome.Ping
is_ping_of outcome.Ping is = refl
is_ping_of outcome.Old is = cc
is_ping_of outcome.NoSocket is = cc
is_ping_of (outcome.Slot slot) is = cc
is_ping_of outcome.Void is = cc
is_ping_of outcome.AckOnly is = cc
is_ping_of outcome.Map is = cc
is_ping_of outcome.OddMap is = cc

-- the pings that were read by a moment have numbers up to the last passed one
pings_rise : (j : List Entry) {a b : List Entry} → ArePeers a b → Moment j b →
    count is_ping j ≤ count_to (last_passed j) (λ k. was_sent (datagram a k))
pings_rise [] peers m = omega arith
pings_rise (Read s f o ∷ past) {a} {b} peers m =
    let sent = λ (k : ℕ). was_sent (datagram a k) in
    elim (cases_Bool (is_ping_outcome o)) [
      | inl ping ↦
          let is = is_ping_of o ping in
          let at = subst (λ (x : Outcome). Moment (Read s f x ∷ past) b) is m in
          let passed : passes o ≡ true = ap passes is in
          let last : last_passed (Read s f o ∷ past) ≡ number f = cond-true (passes o) (number f) (last_passed past) passed in
          omega (
            arith,
            ap bit ping,
            pings_rise past peers (past_of m),
            count_to_more sent (last_passed past) (number f) (rise s f o peers m passed) (ping_was_sent s f peers at),
            ap (λ k. count_to k sent) last,
          )
      | inr other ↦
          omega (
            arith,
            ap bit other,
            pings_rise past peers (past_of m),
            count_to_grows sent (last_passed past) (last_passed (Read s f o ∷ past)) (last_passed_grows peers (before now) m),
          )
    ]
pings_rise (e ∷ past) peers m = omega (arith, pings_rise past peers (past_of m))

pub few_pongs : (a b : List Entry) → ArePeers a b → count is_pong b ≤ count is_send a
few_pongs a b peers =
    omega (arith, pongs_answer b peers.legal_b, pings_rise b peers now, few_numbers (last_passed b) a)
