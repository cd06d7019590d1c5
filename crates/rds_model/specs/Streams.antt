-- What went over each stream, in the order in which it went. Source: this project's own.
use Rattle.std.specs.Prelude.{ℕ, ◌==◌, ◌&&◌, ◌||◌, if◌then◌else◌, Bool, false, List, [], ◌∷◌, ◌++◌}
use Rattle.std.specs.List.{flat_map}
use Rattle.rds_wire.specs.declared.frame.Frame.{Frame}
use Rattle.rds_wire.specs.Bytes.{header_bytes, frame_bytes}
use Rattle.rds_model.specs.declared.entry.Entry.{Entry}
use Rattle.rds_model.specs.declared.entry.Entry.TheVariants.{Pull, Read, Bad}
use Rattle.rds_model.specs.Past.{carries_number, number, passes}

-- the frames that were pulled on stream s
abbrev pub pulled_frames : ℕ → List Entry → List Frame
pulled_frames s [] = []
pulled_frames s (Pull stream frame ∷ past) = if stream == s then pulled_frames s past ++ frame ∷ [] else pulled_frames s past
pulled_frames s (_ ∷ past) = pulled_frames s past

-- the frames that were read on stream s
abbrev pub read_frames : ℕ → List Entry → List Frame
read_frames s [] = []
read_frames s (Read stream frame outcome ∷ past) = if stream == s then read_frames s past ++ frame ∷ [] else read_frames s past
read_frames s (_ ∷ past) = read_frames s past

-- the bytes of the malformed header that ended stream s, if one did
abbrev pub refused_bytes : ℕ → List Entry → List ℕ
refused_bytes s [] = []
refused_bytes s (Bad stream header cause ∷ past) = if stream == s then header_bytes header else refused_bytes s past
refused_bytes s (_ ∷ past) = refused_bytes s past

-- the bytes that were written to stream s
abbrev pub written_bytes : ℕ → List Entry → List ℕ
written_bytes s past = flat_map frame_bytes (pulled_frames s past)

-- the bytes of stream s that were read as frames, and as a malformed header behind them
abbrev pub read_bytes : ℕ → List Entry → List ℕ
read_bytes s past = flat_map frame_bytes (read_frames s past) ++ refused_bytes s past

-- the datagram of number n was pulled on stream s
abbrev pub pulled_on : ℕ → List Entry → ℕ → Bool
pulled_on s [] n = false
pulled_on s (Pull stream frame ∷ past) n = stream == s && carries_number n frame || pulled_on s past n
pulled_on s (_ ∷ past) n = pulled_on s past n

-- the datagram of number n was pulled on some stream
abbrev pub was_pulled : List Entry → ℕ → Bool
was_pulled [] n = false
was_pulled (Pull stream frame ∷ past) n = carries_number n frame || was_pulled past n
was_pulled (_ ∷ past) n = was_pulled past n

-- the datagram of number n was read
abbrev pub was_read : List Entry → ℕ → Bool
was_read [] n = false
was_read (Read stream frame outcome ∷ past) n = carries_number n frame || was_read past n
was_read (_ ∷ past) n = was_read past n

-- the datagram of number n was read and passed
abbrev pub was_passed : List Entry → ℕ → Bool
was_passed [] n = false
was_passed (Read stream frame outcome ∷ past) n = passes outcome && (number frame == n) || was_passed past n
was_passed (_ ∷ past) n = was_passed past n
