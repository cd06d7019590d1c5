-- Each congestion map that was read was pulled at the other end, where streams gave a beginning of what was written to them.
use Rattle.std.proofs.Common.{◌≡◌, ◌==◌, inl, inr, ℕ, zero, suc, Bool, true, false, cond, List, [], ◌∷◌, refl, sym, ap, ◌∙◌, arith}
use Rattle.std.specs.Prelude.{Contains}
use Rattle.std.proofs.lemmas.List.Elements.{Contains-push_cases}
use Rattle.std.proofs.lemmas.Option.{get_or_from_slice_get, same_Some, slice_get_within}
use Rattle.rds_wire.specs.declared.frame.Frame.{Frame}
use Rattle.rds_wire.specs.declared.header.Header.{Header}
use Rattle.rds_wire.specs.declared.kind.Kind.{Kind}
use Rattle.rds_wire.specs.declared.kind.Kind.TheVariants as kind
use Rattle.rds_wire.specs.Kinds.{kind_of}
use Rattle.rds_cong.specs.Map.{has_port, no_ports}
use Rattle.rds_cong.specs.HalfLaws.{none_is, port-zeros}
use Rattle.rds_fmap.specs.declared.seen.Seen.{Seen}
use Rattle.rds_fmap.specs.Versions.{IsSeenIn, IsVersion}
use Rattle.rds_model.specs.declared.entry.Entry.{Entry}
use Rattle.rds_model.specs.declared.entry.Entry.TheVariants.{Accept, Cancel, Open, Pull, Read, Shut, Bad}
use Rattle.rds_model.specs.declared.entry.Outcome.{Outcome}
use Rattle.rds_model.specs.declared.entry.Outcome.TheVariants as outcome
use Rattle.rds_model.specs.declared.entry.Verdict.TheVariants as verdict
use Rattle.rds_model.specs.LegalityLaws.{lawful_read}
use Rattle.rds_model.specs.Owed.{is_map, is_map_kind}
use Rattle.rds_model.specs.Past.{Moment, before, now}
use Rattle.rds_model.specs.Reading.{Obeys, is_old, verdict_of_kind}
use Rattle.rds_model.specs.Sums.{maps, with_map}
use Rattle.rds_model.proofs.Matching.{ArePeers, pull_of_read}

-- a map stands in the journal as the reading of its frame
record WasRead (map : List ℕ) (past : List Entry) : Type 0 where
  stream : ℕ
  frame : Frame
  rest : List Entry
  at : Moment (Read stream frame outcome.Map ∷ rest) past
  is : frame.payload ≡ map

later : {e : Entry} (map : List ℕ) (past : List Entry) → WasRead map past → WasRead map (e ∷ past)
later map past was = record { stream = was.stream; frame = was.frame; rest = was.rest; at = before was.at; is = was.is }

was_read : (map : List ℕ) (past : List Entry) → Contains (maps past) map → WasRead map past
was_read map [] (k, within, is) = absurd (omega (arith, within))
was_read map (Read s f o ∷ past) inside = go (λ found. was_read map past found) o inside
  where
    old : (x : Outcome) → WasRead map past → WasRead map (Read s f x ∷ past)
    old x was = later map past was

    go : (Contains (maps past) map → WasRead map past) → (x : Outcome) → Contains (with_map x f.payload (maps past)) map → WasRead map (Read s f x ∷ past)
    go earlier outcome.Map found =
        elim (Contains-push_cases (maps past) f.payload map found) [
          | inl first ↦ old outcome.Map (earlier first)
          | inr last ↦ record { stream = s; frame = f; rest = past; at = now; is = last }
        ]
    go earlier outcome.Old found = old outcome.Old (earlier found)
    go earlier outcome.NoSocket found = old outcome.NoSocket (earlier found)
    go earlier (outcome.Slot slot) found = old (outcome.Slot slot) (earlier found)
    go earlier outcome.Ping found = old outcome.Ping (earlier found)
    go earlier outcome.Void found = old outcome.Void (earlier found)
    go earlier outcome.AckOnly found = old outcome.AckOnly (earlier found)
    go earlier outcome.OddMap found = old outcome.OddMap (earlier found)
was_read map (Accept slot sport dport payload ∷ past) inside = later map past (was_read map past inside)
was_read map (Cancel slot target ∷ past) inside = later map past (was_read map past inside)
was_read map (Open s ∷ past) inside = later map past (was_read map past inside)
was_read map (Pull s f ∷ past) inside = later map past (was_read map past inside)
was_read map (Shut s ∷ past) inside = later map past (was_read map past inside)
was_read map (Bad s h found ∷ past) inside = later map past (was_read map past inside)

-- what is read as a map is one
map_obeyed : (past : List Entry) (h : Header) (k : Kind) → Obeys (verdict_of_kind k past h) outcome.Map → is_map_kind k ≡ true
map_obeyed past h kind.Map obeys = refl
map_obeyed past h kind.OddMap obeys = absurd (cc)
map_obeyed past h kind.Ack obeys = absurd (cc)
map_obeyed past h kind.Data obeys = absurd (go (is_old past h) (h.dport == 0) (h.sport == 0) obeys)
  where
    go : (old to from : Bool) → Obeys (cond old verdict.Old (cond to (cond from verdict.Void verdict.Ping) (verdict.Deliver h.dport))) outcome.Map → ⊥
    go true to from obeys = absurd (cc)
    go false true true obeys = absurd (cc)
    go false true false obeys = absurd (cc)
    go false false from obeys = obeys

pub map_was_pulled : (a b : List Entry) (map : List ℕ) → ArePeers a b → Contains (maps b) map →
    (s : ℕ) × (f : Frame) × (p : List Entry) × Moment (Pull s f ∷ p) a × (is_map f ≡ true) × (f.payload ≡ map)
map_was_pulled a b map peers inside =
    let was = was_read map b inside in
    let pull = pull_of_read was.stream was.frame outcome.Map peers was.at in
    let obeys = (lawful_read was.stream was.frame outcome.Map peers.legal_b was.at).obeys in
    (was.stream, was.frame, pull.past, pull.at, map_obeyed was.rest was.frame.header (kind_of was.frame.header) obeys, was.is)

-- So a look at the maps that were read finds no port marked, where none was pulled with it.
pub none_marked : (a b : List Entry) → ArePeers a b →
    ((s : ℕ) (f : Frame) (p : List Entry) → Moment (Pull s f ∷ p) a → is_map f ≡ true → (port : ℕ) → has_port f.payload port ≡ false) →
    (port : ℕ) (seen : Seen) → IsSeenIn (maps b) port seen → seen.set ≡ false
none_marked a b peers none port seen (map, version, set) = set ∙ go seen.version version
  where
    go : (v : ℕ) → IsVersion (maps b) v map → has_port map port ≡ false
    go zero is = ap (λ (m : List ℕ). has_port m port) (sym (same_Some no_ports map is)) ∙ port-zeros 8192 no_ports port none_is
    go (suc v) is =
        let inside : Contains (maps b) map = (v, slice_get_within (maps b) v map is, get_or_from_slice_get (maps b) v map map is) in
        let pull = map_was_pulled a b map peers inside in
        ap (λ (m : List ℕ). has_port m port) (sym pull.5) ∙ none pull.0 pull.1 pull.2 pull.3 pull.4 port
