-- Steps by which an example journal is seen to be legal, and two of them to be honest.
use Rattle.std.proofs.Common.{◌≡◌, ℕ, suc, ◌<◌, ◌≤◌, ◌^◌, Some, None, List, [], ◌∷◌, ◌++◌, length, refl, sym, ◌∙◌, ap}
use Rattle.std.specs.List.{flat_map}
use Rattle.std.proofs.lemmas.List.{append-nil}
use Rattle.std.proofs.lemmas.List.Concat.{flat_map-append}
use Rattle.rds_wire.specs.Bytes.{IsBytes, frame_bytes}
use Rattle.rds_wire.specs.declared.frame.Frame.{Frame}
use Rattle.rds_wire.specs.declared.kind.TheConstants.{MAP_LENGTH, MAX_LENGTH}
use Rattle.rds_model.specs.declared.entry.Entry.{Entry}
use Rattle.rds_model.specs.declared.entry.Entry.TheVariants.{Accept, Pull, Read}
use Rattle.rds_model.specs.declared.entry.Outcome.{Outcome}
use Rattle.rds_model.specs.declared.entry.Outcome.TheVariants as outcome
use Rattle.rds_model.specs.declared.entry.TheConstants.{NO_SLOT}
use Rattle.rds_model.specs.Past.{Moment, accepted, open_stream, highest_pulled, last_passed}
use Rattle.rds_model.specs.Streams.{pulled_frames, read_frames, refused_bytes, written_bytes, read_bytes}
use Rattle.rds_model.specs.Alive.{due_numbers}
use Rattle.rds_model.specs.Honest.{Begins}
use Rattle.rds_model.specs.Drained.{OwesNothing}
use Rattle.rds_model.specs.Owed.{last_map, owed_frame, owed_after_map}
use Rattle.rds_model.specs.Reading.{verdict_of, Obeys}
use Rattle.rds_model.specs.Legal.{IsWhole, IsLawful, IsLawfulRead, pong_to}
use Rattle.rds_model.proofs.Moments.{past_of}
use Rattle.rds_model.specs.LegalityLaws.{legal_at, lawful_pull}
use Rattle.rds_model.specs.OwingLaws.{owed_is_lawful, settled_continues, owed_behind_last}
use Rattle.rds_model.proofs.SoundFrames.{lawful_frame_is_sound}

-- one more entry that is lawful
pub more : (e : Entry) (past : List Entry) → IsWhole past → IsLawful past e → pong_to (e ∷ past) ≡ None → IsWhole (e ∷ past)
more e past whole lawful settled =
    record { legal = (settled_continues past e whole.settled lawful, whole.legal); settled = settled }

-- the pull of what is owed
pub pulling : (s : ℕ) (f : Frame) (past : List Entry) (map : List ℕ) → IsWhole past → open_stream past ≡ Some s → length map ≡ MAP_LENGTH →
    IsBytes map → owed_frame s past map ≡ Some f → IsWhole (Pull s f ∷ past)
pulling s f past map whole on long bytes is = more (Pull s f) past whole (owed_is_lawful s past map f whole.legal on long bytes is) refl

-- the reading of a frame that the peer pulled is lawful
read_lawfully : (s : ℕ) (f : Frame) (o : Outcome) (past : List Entry) {sender peer : List Entry} → open_stream past ≡ Some s →
    IsWhole peer → Moment (Pull s f ∷ sender) peer → last_passed sender ≤ highest_pulled past → Obeys (verdict_of past f.header) o →
    IsLawfulRead s past f o
read_lawfully s f o past {sender} {peer} on peer_whole m known obeys =
    let lawful = lawful_pull s f peer_whole.legal m in
    record {
      on = on;
      header = lawful.header;
      whole = lawful.whole;
      sound = lawful_frame_is_sound s sender f (highest_pulled past) (legal_at (past_of m) peer_whole.legal) lawful known;
      obeys = obeys;
    }

-- the reading of such a frame
pub reading : (s : ℕ) (f : Frame) (o : Outcome) (past : List Entry) {sender peer : List Entry} → IsWhole past → open_stream past ≡ Some s →
    IsWhole peer → Moment (Pull s f ∷ sender) peer → last_passed sender ≤ highest_pulled past → Obeys (verdict_of past f.header) o →
    pong_to (Read s f o ∷ past) ≡ None → IsWhole (Read s f o ∷ past)
reading s f o past whole on peer_whole m known obeys settled =
    more (Read s f o) past whole (read_lawfully s f o past on peer_whole m known obeys) settled

-- the reading of a ping, and its pong
pub answering : (s : ℕ) (f : Frame) (past : List Entry) {sender peer : List Entry} → IsWhole past → open_stream past ≡ Some s →
    IsWhole peer → Moment (Pull s f ∷ sender) peer → last_passed sender ≤ highest_pulled past → Obeys (verdict_of past f.header) outcome.Ping →
    suc (accepted past) < 2 ^ 63 → IsWhole (Accept NO_SLOT 0 f.header.sport [] ∷ Read s f outcome.Ping ∷ past)
answering s f past whole on peer_whole m known obeys few = record {
  legal = (
    record { is = refl; number_fits = few },
    (settled_continues past (Read s f outcome.Ping) whole.settled (read_lawfully s f outcome.Ping past on peer_whole m known obeys), whole.legal),
  );
  settled = refl;
}

pub nothing_yet : IsWhole []
nothing_yet = record { legal = tt; settled = refl }

-- the pull of what is owed behind the last map
pub pulling_behind : (s : ℕ) (f : Frame) (past : List Entry) (map : List ℕ) → IsWhole past → open_stream past ≡ Some s → length map ≡ MAP_LENGTH →
    IsBytes map → last_map s past ≡ Some map → owed_after_map s past (due_numbers s past) ≡ Some f → IsWhole (Pull s f ∷ past)
pulling_behind s f past map whole on long bytes last is = pulling s f past map whole on long bytes (owed_behind_last s past map last ∙ is)

-- the acceptance of a datagram from slot 0
pub accepting : (sport dport : ℕ) (payload : List ℕ) (past : List Entry) → IsWhole past → sport < 2 ^ 16 → dport < 2 ^ 16 →
    length payload ≤ MAX_LENGTH → suc (accepted past) < 2 ^ 63 → IsWhole (Accept 0 sport dport payload ∷ past)
accepting sport dport payload past whole fits_sport fits_dport short few =
    more (Accept 0 sport dport payload) past whole (record {
      socket = λ e. cc;
      sport_fits = fits_sport;
      dport_fits = fits_dport;
      payload_fits = short;
      number_fits = few;
    }) refl

-- honest on a stream: the frames that were read are the first of those that were pulled, and no header was refused
pub begins : (s : ℕ) (a b : List Entry) (left : List Frame) → pulled_frames s a ≡ read_frames s b ++ left → refused_bytes s b ≡ [] → Begins (read_bytes s b) (written_bytes s a)
begins s a b left frames none = (
  flat_map frame_bytes left,
  ap (flat_map frame_bytes) frames ∙ flat_map-append frame_bytes (read_frames s b) left
      ∙ ap (λ (l : List ℕ). l ++ flat_map frame_bytes left) (sym (append-nil (flat_map frame_bytes (read_frames s b))))
      ∙ ap (λ (l : List ℕ). (flat_map frame_bytes (read_frames s b) ++ l) ++ flat_map frame_bytes left) (sym none),
)

-- an end that owes nothing for the map that it pulled last
pub owing_nothing : (s : ℕ) (past : List Entry) (map : List ℕ) → last_map s past ≡ Some map → owed_after_map s past (due_numbers s past) ≡ None → OwesNothing s past
owing_nothing s past map last none = record { map = map; pulled = last; nothing = owed_behind_last s past map last ∙ none }

-- one end got all that the other wrote
pub all_got : (s : ℕ) (a b : List Entry) → read_frames s b ≡ pulled_frames s a → refused_bytes s b ≡ [] → read_bytes s b ≡ written_bytes s a
all_got s a b frames none =
    ap (λ (l : List ℕ). flat_map frame_bytes (read_frames s b) ++ l) none ∙ append-nil (flat_map frame_bytes (read_frames s b)) ∙ ap (flat_map frame_bytes) frames
