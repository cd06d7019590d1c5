-- Where what came of a stream is all that was written to it, all of it was read: no part of a frame is left.
use Rattle.std.proofs.Common.{◌≡◌, inl, ℕ, ◌==◌, if◌then◌else◌, Bool, true, false, List, [], ◌∷◌, ◌++◌, sym, ap, ◌∙◌, arith}
use Rattle.std.specs.List.{All, flat_map}
use Rattle.std.proofs.lemmas.List.{append-nil}
use Rattle.std.proofs.lemmas.List.Elements.{All-nil, All-push}
use Rattle.std.specs.Prelude.{Some}
use Rattle.rds_wire.specs.declared.frame.Frame.{Frame}
use Rattle.rds_wire.specs.Bytes.{frame_bytes}
use Rattle.rds_frame.specs.Splitting.{IsFrame, IsPartial, Splits}
use Rattle.rds_model.specs.declared.entry.Entry.{Entry}
use Rattle.rds_model.specs.declared.entry.Entry.TheVariants.{Pull, Read}
use Rattle.rds_model.specs.Past.{now, open_stream}
use Rattle.rds_model.specs.Streams.{pulled_frames, read_bytes, read_frames, written_bytes}
use Rattle.rds_model.specs.Legal.{IsLegal}
use Rattle.rds_model.specs.LegalityLaws.{lawful_pull, lawful_read}
use Rattle.rds_model.specs.StreamLaws.{unrefused}

-- one more frame, where it went over this stream
one_more : (s stream : ℕ) (frame : Frame) (frames : List Frame) → IsFrame frame → All IsFrame frames →
    All IsFrame (if stream == s then frames ++ frame ∷ [] else frames)
one_more s stream frame frames is each = by_stream (stream == s)
  where
    by_stream : (same : Bool) → All IsFrame (if same then frames ++ frame ∷ [] else frames)
    by_stream true = All-push IsFrame frames frame each is
    by_stream false = each

-- each frame that was pulled is whole
pulled_are_whole : (s : ℕ) (past : List Entry) → IsLegal past → All IsFrame (pulled_frames s past)
pulled_are_whole s [] legal = All-nil IsFrame
pulled_are_whole s (Pull stream frame ∷ past) legal =
    let lawful = lawful_pull stream frame legal now in
    one_more s stream frame (pulled_frames s past) (record { header = lawful.header; payload = lawful.whole }) (pulled_are_whole s past legal.1)
pulled_are_whole s (_ ∷ past) legal = pulled_are_whole s past legal.1

-- and so is each that was read
read_are_whole : (s : ℕ) (past : List Entry) → IsLegal past → All IsFrame (read_frames s past)
read_are_whole s [] legal = All-nil IsFrame
read_are_whole s (Read stream frame outcome ∷ past) legal =
    let lawful = lawful_read stream frame outcome legal now in
    one_more s stream frame (read_frames s past) (record { header = lawful.header; payload = lawful.whole }) (read_are_whole s past legal.1)
read_are_whole s (_ ∷ past) legal = read_are_whole s past legal.1

-- no bytes are two lists of frames, each with less than a frame after it
abbrev pub HaveOneSplit : Type 0
HaveOneSplit =
    (bytes : List ℕ) (frames others : List Frame) (rest rest_too : List ℕ) → Splits bytes frames rest → Splits bytes others rest_too →
    (frames ≡ others) × (rest ≡ rest_too)

pub all_read : HaveOneSplit → (s : ℕ) (writer reader : List Entry) (rest : List ℕ) → IsLegal writer → IsLegal reader → open_stream reader ≡ Some s →
    IsPartial rest → read_bytes s reader ++ rest ≡ written_bytes s writer → read_bytes s reader ≡ written_bytes s writer
all_read one_split s writer reader rest legal_writer legal_reader on partial came =
    sym (append-nil (read_bytes s reader)) ∙ ap (λ (left : List ℕ). read_bytes s reader ++ left) none_left ∙ came
  where
    as_frames : read_bytes s reader ≡ flat_map frame_bytes (read_frames s reader)
    as_frames =
        ap (λ (bad : List ℕ). flat_map frame_bytes (read_frames s reader) ++ bad) (unrefused s reader legal_reader on)
        ∙ append-nil (flat_map frame_bytes (read_frames s reader))

    as_written : Splits (written_bytes s writer) (pulled_frames s writer) []
    as_written = record {
      whole = sym (append-nil (written_bytes s writer));
      each = pulled_are_whole s writer legal_writer;
      partial = inl (omega arith);
    }

    as_read : Splits (written_bytes s writer) (read_frames s reader) rest
    as_read = record {
      whole = sym came ∙ ap (λ (bytes : List ℕ). bytes ++ rest) as_frames;
      each = read_are_whole s reader legal_reader;
      partial = partial;
    }

    none_left : [] ≡ rest
    none_left = (one_split (written_bytes s writer) (pulled_frames s writer) (read_frames s reader) [] rest as_written as_read).1
