-- Each frame that was read is one that the peer pulled, behind the same frames on the stream, and in the same order.
use Rattle.std.proofs.Common.{◌≡◌, ℕ, ◌<◌, ◌==◌, List, [], ◌∷◌, ◌++◌, length, ◌∙◌, ap, arith, append_assoc, length-append}
use Rattle.std.specs.List.{All, flat_map}
use Rattle.std.proofs.lemmas.Bool.{cond_both}
use Rattle.std.proofs.lemmas.List.Elements.{All-nil, All-push}
use Rattle.rds_wire.specs.declared.frame.Frame.{Frame}
use Rattle.rds_wire.specs.Bytes.{frame_bytes}
use Rattle.rds_model.specs.declared.entry.Entry.{Entry}
use Rattle.rds_model.specs.declared.entry.Entry.TheVariants.{Pull, Read}
use Rattle.rds_model.specs.declared.entry.Outcome.{Outcome}
use Rattle.rds_model.specs.Past.{Moment, now}
use Rattle.rds_model.specs.Streams.{pulled_frames, read_frames, refused_bytes}
use Rattle.rds_model.specs.Legal.{IsLegal}
use Rattle.rds_model.specs.Honest.{IsHonest}
use Rattle.rds_model.proofs.Moments.{InOrder, first, second, same, of_two_entries, past_of}
use Rattle.rds_model.proofs.Frames.{PulledAfter, pull_moment, pull_begins, read_begins}
use Rattle.rds_model.specs.LegalityLaws.{legal_at, lawful_pull, lawful_read}
use Rattle.rds_model.proofs.StreamOrder.{on_earlier_stream}
use Rattle.rds_model.proofs.Decoding.{IsSound, decoded}

-- the two ends of a connection: both journals are legal, and they are honest
pub record ArePeers (a b : List Entry) : Type 0 where
  pub legal_a : IsLegal a
  pub legal_b : IsLegal b
  pub honest : IsHonest a b

-- seen from the other end
pub other_way : (a b : List Entry) → ArePeers a b → ArePeers b a
other_way a b peers =
    let honest = peers.honest in
    record { legal_a = peers.legal_b; legal_b = peers.legal_a; honest = record { forth = honest.back; back = honest.forth } }

-- lawful frames are sound
pub sound_pulls : (s : ℕ) (j : List Entry) → IsLegal j → All IsSound (pulled_frames s j)
sound_pulls s [] legal = All-nil IsSound
sound_pulls s (Pull stream frame ∷ past) legal =
    let older = sound_pulls s past legal.1 in
    let lawful = lawful_pull stream frame legal now in
    let sound : IsSound frame = record { header = lawful.header; whole = lawful.whole } in
    cond_both (stream == s) (pulled_frames s past ++ frame ∷ []) (pulled_frames s past) (All IsSound)
    (λ _. All-push IsSound (pulled_frames s past) frame older sound) (λ _. older)
sound_pulls s (_ ∷ past) legal = sound_pulls s past legal.1

pub sound_reads : (s : ℕ) (j : List Entry) → IsLegal j → All IsSound (read_frames s j)
sound_reads s [] legal = All-nil IsSound
sound_reads s (Read stream frame outcome ∷ past) legal =
    let older = sound_reads s past legal.1 in
    let lawful = lawful_read stream frame outcome legal now in
    let sound : IsSound frame = record { header = lawful.header; whole = lawful.whole } in
    cond_both (stream == s) (read_frames s past ++ frame ∷ []) (read_frames s past) (All IsSound)
    (λ _. All-push IsSound (read_frames s past) frame older sound) (λ _. older)
sound_reads s (_ ∷ past) legal = sound_reads s past legal.1

-- what B read on a stream is the front of what A pulled there, and the header that B refused comes next
pub record Matched (s : ℕ) (a b : List Entry) : Type 0 where
  pub left : List Frame
  pub rest : List ℕ
  pub frames : pulled_frames s a ≡ read_frames s b ++ left
  pub bytes : flat_map frame_bytes left ≡ refused_bytes s b ++ rest

pub matched : (s : ℕ) (a b : List Entry) → ArePeers a b → Matched s a b
matched s a b peers =
    let begins = peers.honest.forth s in
    let bytes = begins.1 ∙ append_assoc (flat_map frame_bytes (read_frames s b)) (refused_bytes s b) begins.0 in
    let found =
    decoded (pulled_frames s a) (read_frames s b) (refused_bytes s b ++ begins.0) (sound_pulls s a peers.legal_a) (sound_reads s b peers.legal_b) bytes in
    record { left = found.0; rest = begins.0; frames = found.1; bytes = found.2 }

-- the pull of a frame that was read
pub pull_of_read : (s : ℕ) (f : Frame) (o : Outcome) {p a b : List Entry} → ArePeers a b → Moment (Read s f o ∷ p) b →
    PulledAfter s (read_frames s p) f a
pull_of_read s f o {p} {a} {b} peers m =
    let whole = matched s a b peers in
    let begins = read_begins s f o m in
    let split = whole.frames ∙ ap (λ (fs : List Frame). fs ++ whole.left) begins.1 ∙ append_assoc (read_frames s p) (f ∷ begins.0) whole.left in
    pull_moment s a (read_frames s p) f (begins.0 ++ whole.left) split

longer : (fs gs : List Frame) (f : Frame) (rest : List Frame) → gs ≡ fs ++ f ∷ rest → length fs < length gs
longer fs gs f rest is =
    let sum = length-append fs (f ∷ rest) in
    let long = ap length is in
    omega (arith, sum, long)

-- frames are read in the order in which they were pulled
pub same_order : (s l : ℕ) (f g : Frame) (o o' : Outcome) {p q a b : List Entry} → ArePeers a b →
    Moment (Read s f o ∷ p) q → Moment (Read l g o' ∷ q) b →
    (x : PulledAfter s (read_frames s p) f a) (y : PulledAfter l (read_frames l q) g a) → Moment (Pull s f ∷ x.past) y.past
same_order s l f g o o' {p} {q} {a} {b} peers m n x y = by_order (of_two_entries x.at y.at)
  where
    earlier_read : (s ≡ l) → length (read_frames s p) < length (read_frames l q)
    earlier_read is =
        let begins = read_begins s f o m in
        let more = longer (read_frames s p) (read_frames s q) f begins.0 begins.1 in
        let along = ap (λ e. length (read_frames e q)) is in
        omega (arith, more, along)

    by_order : InOrder (Pull s f) x.past (Pull l g) y.past → Moment (Pull s f ∷ x.past) y.past
    by_order (first before_it) = before_it
    by_order (same is is_past) =
        let is_k : s ≡ l = cc in
        let x_long = ap length x.earlier in
        let y_long = ap length y.earlier in
        let along : length (pulled_frames s x.past) ≡ length (pulled_frames l y.past) = λ i. length (pulled_frames (is_k i) (is_past i)) in
        absurd (omega (arith, earlier_read is_k, x_long, y_long, along))
    by_order (second before_it) =
        let legal_q = legal_at (past_of n) peers.legal_b in
        let pull_x = lawful_pull s f peers.legal_a x.at in
        let pull_y = lawful_pull l g peers.legal_a y.at in
        let read_p = lawful_read s f o legal_q m in
        let read_q = lawful_read l g o' peers.legal_b n in
        let forth = on_earlier_stream s l legal_q (past_of m) read_p.on read_q.on in
        let back = on_earlier_stream l s (legal_at (past_of x.at) peers.legal_a) (past_of before_it) pull_y.on pull_x.on in
        let is_k : s ≡ l = omega arith in
        let begins = pull_begins l g before_it in
        let more = longer (pulled_frames l y.past) (pulled_frames l x.past) g begins.0 begins.1 in
        let along = ap (λ e. length (pulled_frames e x.past)) is_k in
        let x_long = ap length x.earlier in
        let y_long = ap length y.earlier in
        absurd (omega (arith, earlier_read is_k, more, along, x_long, y_long))
