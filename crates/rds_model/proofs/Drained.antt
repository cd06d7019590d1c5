-- Where two journals are quiet, no number is alive, and each end has read the last map of the other.
use Rattle.std.proofs.Common.{◌≡◌, inl, inr, ℕ, ◌≤◌, ◌==◌, ◌&&◌, true, false, Some, None, List, [], ◌∷◌, ◌++◌, refl, sym, ◌∙◌, ap, arith}
use Rattle.std.specs.List.{flat_map}
use Rattle.std.proofs.lemmas.Bool.{and_parts, or_cases, or_parts, eqb-true, eq-eqb, cond-true, false_from_ne_true, false≢true}
use Rattle.std.proofs.lemmas.List.{append-nil}
use Rattle.rds_wire.specs.declared.frame.Frame.{Frame}
use Rattle.rds_wire.specs.Bytes.{frame_bytes}
use Rattle.rds_model.specs.declared.entry.Entry.{Entry}
use Rattle.rds_model.specs.declared.entry.Entry.TheVariants.{Accept, Pull, Read, Bad}
use Rattle.rds_model.specs.declared.entry.Outcome.{Outcome}
use Rattle.rds_model.specs.Past.{Moment, now, before, accepted, open_stream, number, is_datagram, passes, last_passed, highest_ack}
use Rattle.rds_model.specs.Streams.{pulled_frames, read_frames, refused_bytes, written_bytes, read_bytes, pulled_on, was_passed}
use Rattle.rds_model.specs.Alive.{is_alive, alive_numbers}
use Rattle.rds_model.specs.Owed.{last_map, is_asked, must_ask, wants_answer}
use Rattle.rds_model.specs.Fifo.{HasNoBad}
use Rattle.rds_model.specs.Drained.{IsQuiet, IsSettledBetween, last_map_read}
use Rattle.rds_model.proofs.Moments.{past_of}
use Rattle.rds_model.specs.NumberLaws.{acknowledges_itself, alive_parts, acked_grows}
use Rattle.rds_model.proofs.Frames.{pull_begins, read_moment, ReadAfter}
use Rattle.rds_model.specs.LegalityLaws.{lawful_pull}
use Rattle.rds_model.specs.FrameLaws.{pull_acknowledges}
use Rattle.rds_model.specs.LeastDueLaws.{passes_none}
use Rattle.rds_model.specs.DueLaws.{none_due}
use Rattle.rds_model.specs.OwingLaws.{idle, IsIdle}
use Rattle.rds_model.proofs.Decoding.{same_frames}
use Rattle.rds_model.proofs.Happenings.{pull_of, PullOf, pulled_on_at, read_as_pulled}
use Rattle.rds_model.proofs.Matching.{ArePeers, other_way, sound_pulls, sound_reads}
use Rattle.rds_model.proofs.Rise.{last_passed_grows, passed_bounds}
use Rattle.rds_model.proofs.OldCopies.{read_is_passed}
use Rattle.rds_model.proofs.NoBad.{no_bad}
use Rattle.rds_model.proofs.Answering.{asked_since, AskedSince, answered_since}
use Rattle.rds_model.proofs.LastMap.{last_among, among_some, last_pulled, last_read}

-- the number of a passed read is at most the last passed one
passed_is_bounded : (p a b : List Entry) → ArePeers a b → Moment p b → (n : ℕ) → was_passed p n ≡ true → n ≤ last_passed p
passed_is_bounded [] a b peers m n was = absurd (false≢true was)
passed_is_bounded (Read s f o ∷ past) a b peers m n was =
    elim (or_cases (passes o && (number f == n)) (was_passed past n) was) [
      | inl this ↦
          let both = and_parts (passes o) (number f == n) this in
          omega (arith, passed_bounds s f o peers now m both.0, eqb-true (number f) n both.1)
      | inr older ↦
          omega (arith, passed_is_bounded past a b peers (past_of m) n older, last_passed_grows peers (before now) m)
    ]
passed_is_bounded (x ∷ past) a b peers m n was = passed_is_bounded past a b peers (past_of m) n was

-- without a `Bad` no header was refused
unrefused : (s : ℕ) (j : List Entry) → HasNoBad j → refused_bytes s j ≡ []
unrefused s [] none = refl
unrefused s (Bad e h found ∷ past) none = absurd (none e h found past now)
unrefused s (Accept slot sport dport payload ∷ past) none = unrefused s past (λ e h found p m. none e h found p (before m))
unrefused s (_ ∷ past) none = unrefused s past (λ e h found p m. none e h found p (before m))

-- where one end got all bytes that the other wrote, it read all its frames
all_read : (s : ℕ) (a b : List Entry) → ArePeers a b → read_bytes s b ≡ written_bytes s a → read_frames s b ≡ pulled_frames s a
all_read s a b peers all =
    let none = unrefused s b (no_bad a b peers) in
    let bytes : flat_map frame_bytes (read_frames s b) ≡ flat_map frame_bytes (pulled_frames s a) =
    sym (append-nil (flat_map frame_bytes (read_frames s b))) ∙ ap (λ (l : List ℕ). flat_map frame_bytes (read_frames s b) ++ l) (sym none) ∙ all in
    same_frames (read_frames s b) (pulled_frames s a) (sound_reads s b peers.legal_b) (sound_pulls s a peers.legal_a) bytes

-- both ends have the same frames on the stream when a frame is pulled, and when it is read
same_front : (s : ℕ) (f : Frame) (o : Outcome) (p q : List Entry) → read_frames s q ≡ pulled_frames s p →
    pulled_frames s (Pull s f ∷ p) ≡ read_frames s (Read s f o ∷ q)
same_front s f o p q same =
    cond-true (s == s) (pulled_frames s p ++ f ∷ []) (pulled_frames s p) (eq-eqb s s refl) ∙ ap (λ (fs : List Frame). fs ++ f ∷ []) (sym same)
    ∙ sym (cond-true (s == s) (read_frames s q ++ f ∷ []) (read_frames s q) (eq-eqb s s refl))

-- a number that B has read is acknowledged by the next frame that B pulls, when A has read that one
acknowledged_by : (s : ℕ) (a b : List Entry) → ArePeers a b → read_frames s a ≡ pulled_frames s b → (n : ℕ) (reader : List Entry) →
    Moment reader b → was_passed reader n ≡ true → (answer : Frame) (past : List Entry) → Moment (Pull s answer ∷ past) b →
    Moment reader past → n ≤ highest_ack a
acknowledged_by s a b peers back n reader m was answer past pulled since =
    let bound = passed_is_bounded reader a b peers m n was in
    let grown = last_passed_grows peers since (past_of pulled) in
    let carried = pull_acknowledges s past answer (lawful_pull s answer peers.legal_b pulled) in
    let begins = pull_begins s answer pulled in
    let reading = read_moment s a (pulled_frames s past) answer begins.0 (back ∙ begins.1) in
    omega (arith, bound, grown, carried, acknowledges_itself s answer reading.outcome reading.past, acked_grows reading.at)

-- a number that A pulled, no later than a frame that asks, is acknowledged
answered : (s : ℕ) (a b : List Entry) → ArePeers a b → read_frames s b ≡ pulled_frames s a → read_frames s a ≡ pulled_frames s b → is_asked s b ≡ false →
    (n : ℕ) (asking : Frame) (past : List Entry) → Moment (Pull s asking ∷ past) a → wants_answer asking ≡ true →
    pulled_on s (Pull s asking ∷ past) n ≡ true → n ≤ highest_ack a
answered s a b peers forth back unasked n asking past m wants on =
    let begins = pull_begins s asking m in
    from (read_moment s b (pulled_frames s past) asking begins.0 (forth ∙ begins.1))
  where
    from : ReadAfter s (pulled_frames s past) asking b → n ≤ highest_ack a
    from reading =
        let reader : List Entry = Read s asking reading.outcome ∷ reading.past in
        let read = read_as_pulled s n (Pull s asking ∷ past) reader (same_front s asking reading.outcome past reading.past reading.earlier) on in
        let passed = read_is_passed reader a b peers reading.at n read in
        let answer = answered_since s asking reading.outcome reading.past reading.at wants unasked in
        acknowledged_by s a b peers back n reader reading.at passed answer.answer answer.past answer.at answer.since

-- Let n be alive at A. It was pulled on the stream, and a frame that asks was pulled then or after it. B read both, and answered
-- after that by a frame that acknowledges n. A read that frame, so n isn't alive.
none_lives : (s : ℕ) (a b : List Entry) → ArePeers a b → read_frames s b ≡ pulled_frames s a → read_frames s a ≡ pulled_frames s b →
    (map_a map_b : List ℕ) → IsIdle s a map_a → IsIdle s b map_b → (n : ℕ) → is_alive a n ≡ true → ⊥
none_lives s a b peers forth back map_a map_b idle_a idle_b n alive =
    from (pull_of s n a (none_due s a idle_a.none_due n alive))
  where
    asked : (pull : PullOf s n a) → AskedSince s pull.frame pull.past a → ⊥
    asked pull since =
        let enough =
        answered s a b peers forth back (or_parts (is_asked s b) (must_ask s b) idle_b.unasked).0 n since.asking since.past since.at since.wants
        (pulled_on_at s n pull.frame since.since pull.carries) in
        omega (arith, enough, (alive_parts a n alive).unacknowledged)

    from : PullOf s n a → ⊥
    from pull =
        asked pull
        (asked_since s pull.frame pull.past a peers.legal_a pull.at (and_parts (is_datagram pull.frame) (number pull.frame == n) pull.carries).0
        (or_parts (is_asked s a) (must_ask s a) idle_a.unasked).1)

none_alive : (s : ℕ) (a b : List Entry) → ArePeers a b → read_frames s b ≡ pulled_frames s a → read_frames s a ≡ pulled_frames s b →
    (map_a map_b : List ℕ) → IsIdle s a map_a → IsIdle s b map_b → alive_numbers a ≡ []
none_alive s a b peers forth back map_a map_b idle_a idle_b =
    passes_none (is_alive a) (accepted a)
    (λ n above within. false_from_ne_true (is_alive a n) (none_lives s a b peers forth back map_a map_b idle_a idle_b n))

-- the map that B read last is the one that A pulled last
map_arrived : (s : ℕ) (a b : List Entry) → ArePeers a b → open_stream b ≡ Some s → read_frames s b ≡ pulled_frames s a → (map : List ℕ) →
    last_map s a ≡ Some map → last_map_read b ≡ last_map s a
map_arrived s a b peers on forth map is =
    let read = last_read s b peers.legal_b on in
    let pulled : last_among None (pulled_frames s a) ≡ Some map = sym (last_pulled s a) ∙ is in
    read.1 ∙ ap (last_among read.0) forth ∙ among_some read.0 (pulled_frames s a) map pulled ∙ sym is

pub settled : (s : ℕ) (a b : List Entry) → ArePeers a b → IsQuiet s a b → IsSettledBetween s a b
settled s a b peers quiet =
    let back_peers = other_way a b peers in
    let forth = all_read s a b peers quiet.forth in
    let back = all_read s b a back_peers quiet.back in
    let map_a = quiet.idle_a.map in
    let map_b = quiet.idle_b.map in
    let idle_a = idle s a map_a quiet.idle_a.nothing in
    let idle_b = idle s b map_b quiet.idle_b.nothing in
    record {
      none_alive_a = none_alive s a b peers forth back map_a map_b idle_a idle_b;
      none_alive_b = none_alive s b a back_peers back forth map_b map_a idle_b idle_a;
      map_a = map_arrived s b a back_peers quiet.open_a back map_b quiet.idle_b.pulled;
      map_b = map_arrived s a b peers quiet.open_b forth map_a quiet.idle_a.pulled;
    }
