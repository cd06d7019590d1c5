-- Laws, each proved: proofs in other crates use them. Nothing here has to be believed.
-- What it says of an entry that its journal is legal.
use Rattle.std.proofs.Common.{◌≡◌, ℕ, suc, ◌<◌, ◌≤◌, ◌^◌, Option, Some, None, MatchOption, List, [], ◌∷◌, length, refl, ap, arith}
use Rattle.rds_wire.specs.declared.frame.Frame.{Frame}
use Rattle.rds_wire.specs.declared.header.Header.{Header}
use Rattle.rds_wire.specs.declared.kind.Malformed.{Malformed}
use Rattle.rds_wire.specs.declared.kind.TheConstants.{MAX_LENGTH}
use Rattle.rds_model.specs.declared.entry.Entry.{Entry}
use Rattle.rds_model.specs.declared.entry.Entry.TheVariants.{Accept, Cancel, Open, Pull, Read, Shut, Bad}
use Rattle.rds_model.specs.declared.entry.Outcome.{Outcome}
use Rattle.rds_model.specs.declared.entry.Outcome.TheVariants as outcome
use Rattle.rds_model.specs.declared.entry.TheConstants.{NO_SLOT}
use Rattle.rds_model.specs.Past.{Moment, now, before, accepted, open_stream, newest_stream}
use Rattle.rds_model.specs.Legal.{IsLegal, IsLawful, IsPong, IsLawfulPull, IsLawfulRead, IsLawfulBad, pong_to}

-- what had happened at a moment of a legal journal is legal
pub legal_at : {p j : List Entry} → Moment p j → IsLegal j → IsLegal p
legal_at now legal = legal
legal_at (before m) legal = legal_at m legal.1

-- an entry that is no pong is lawful behind its past
lawful_unless_pong : (e : Entry) (past : List Entry) → ((port : ℕ) → e ≡ Accept NO_SLOT 0 port [] → ⊥) →
    (o : Option ℕ) → MatchOption o (IsLawful past e) (λ port. IsPong past port e) → IsLawful past e
lawful_unless_pong e past other None lawful = lawful
lawful_unless_pong e past other (Some port) pong = absurd (other port pong.is)

pub lawful_pull : (s : ℕ) (f : Frame) {p j : List Entry} → IsLegal j → Moment (Pull s f ∷ p) j → IsLawfulPull s p f
lawful_pull s f {p} legal m = lawful_unless_pong (Pull s f) p (λ port e. cc) (pong_to p) (legal_at m legal).0

pub lawful_read : (s : ℕ) (f : Frame) (o : Outcome) {p j : List Entry} → IsLegal j → Moment (Read s f o ∷ p) j → IsLawfulRead s p f o
lawful_read s f o {p} legal m = lawful_unless_pong (Read s f o) p (λ port e. cc) (pong_to p) (legal_at m legal).0

pub lawful_bad : (s : ℕ) (h : Header) (found : Malformed) {p j : List Entry} → IsLegal j → Moment (Bad s h found ∷ p) j → IsLawfulBad s p h found
lawful_bad s h found {p} legal m = lawful_unless_pong (Bad s h found) p (λ port e. cc) (pong_to p) (legal_at m legal).0

pub lawful_open : (s : ℕ) (p : List Entry) → IsLegal (Open s ∷ p) → (open_stream p ≡ None) × (newest_stream p < s)
lawful_open s p legal = lawful_unless_pong (Open s) p (λ port e. cc) (pong_to p) legal.0

pub lawful_shut : (s : ℕ) (p : List Entry) → IsLegal (Shut s ∷ p) → open_stream p ≡ Some s
lawful_shut s p legal = lawful_unless_pong (Shut s) p (λ port e. cc) (pong_to p) legal.0

-- what an accepted datagram has, whether a socket sent it or it is a pong
pub record IsAcceptable (past : List Entry) (from to : ℕ) (payload : List ℕ) : Type 0 where
  pub sport : from < 2 ^ 16
  pub dport : to < 2 ^ 16
  pub short : length payload ≤ MAX_LENGTH
  pub number : suc (accepted past) < 2 ^ 63

-- a pong goes to the port that the ping came from
pong_port : (past : List Entry) (port : ℕ) → IsLegal past → pong_to past ≡ Some port → port < 2 ^ 16
pong_port [] port legal is = cc
pong_port (Read stream frame outcome.Ping ∷ past) port legal is =
    let sport : frame.header.sport ≡ port = cc in
    omega (arith, sport, (lawful_read stream frame outcome.Ping legal now).header.sport)
pong_port (Read stream frame _ ∷ past) port legal is = cc
pong_port (_ ∷ past) port legal is = cc

accepted_lawfully : (past : List Entry) (slot from to : ℕ) (payload : List ℕ) → IsLegal past →
    (o : Option ℕ) → pong_to past ≡ o →
    MatchOption o (IsLawful past (Accept slot from to payload)) (λ port. IsPong past port (Accept slot from to payload)) →
    IsAcceptable past from to payload
accepted_lawfully past slot from to payload legal None none lawful =
    record { sport = lawful.sport_fits; dport = lawful.dport_fits; short = lawful.payload_fits; number = lawful.number_fits }
accepted_lawfully past slot from to payload legal (Some port) some pong =
    let is = pong.is in
    let is_from : from ≡ 0 = cc in
    let is_to : to ≡ port = cc in
    let is_payload : payload ≡ [] = cc in
    record {
      sport = omega arith;
      dport = omega (arith, pong_port past port legal some);
      short = omega (arith, ap length is_payload);
      number = pong.number_fits;
    }

pub acceptable : (slot from to : ℕ) (payload : List ℕ) {p j : List Entry} → IsLegal j → Moment (Accept slot from to payload ∷ p) j →
    IsAcceptable p from to payload
acceptable slot from to payload {p} legal m =
    let here = legal_at m legal in
    accepted_lawfully p slot from to payload here.1 (pong_to p) refl here.0

-- the open stream is the newest
pub open_is_newest : (past : List Entry) → IsLegal past → (s : ℕ) → open_stream past ≡ Some s → newest_stream past ≡ s
open_is_newest [] legal s is = cc
open_is_newest (Open stream ∷ past) legal s is = cc
open_is_newest (Shut stream ∷ past) legal s is = cc
open_is_newest (Bad stream header cause ∷ past) legal s is = cc
open_is_newest (Accept slot sport dport payload ∷ past) legal s is = open_is_newest past legal.1 s is
open_is_newest (Cancel slot target ∷ past) legal s is = open_is_newest past legal.1 s is
open_is_newest (Pull stream frame ∷ past) legal s is = open_is_newest past legal.1 s is
open_is_newest (Read stream frame outcome ∷ past) legal s is = open_is_newest past legal.1 s is
