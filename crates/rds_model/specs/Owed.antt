-- Which frame an end owes to the open stream s. The choice between frames and the rules of retransmission and
-- acknowledgement are this project's own; the flags are those of rds.h.
use Rattle.std.specs.Prelude.{ℕ, ◌+◌, ◌==◌, ◌&&◌, ◌||◌, not, nat_eq, nat_lt, nat_le, if◌then◌else◌, Bool, true, false, Option, Some, None, List, [], ◌∷◌, length, sum_by, replicate}
use Rattle.std.specs.List.{list_all}
use Rattle.std.specs.Cmp.Lexicographic.{pointwise}
use Rattle.rds_wire.specs.declared.header.Header.{Header}
use Rattle.rds_wire.specs.declared.header.TheConstants.{CONG_BITMAP, ACK_REQUIRED, RETRANSMITTED}
use Rattle.rds_wire.specs.declared.frame.Frame.{Frame}
use Rattle.rds_wire.specs.declared.kind.Kind.{Kind}
use Rattle.rds_wire.specs.declared.kind.Kind.TheVariants.{Data, Ack, Map, OddMap}
use Rattle.rds_wire.specs.declared.kind.TheConstants.{MAP_LENGTH}
use Rattle.rds_wire.specs.Bytes.{sealed}
use Rattle.rds_wire.specs.Kinds.{carries, kind_of}
use Rattle.rds_model.specs.declared.entry.Entry.{Entry}
use Rattle.rds_model.specs.declared.entry.Entry.TheVariants.{Pull, Read}
use Rattle.rds_model.specs.declared.owed.TheConstants.{MAX_UNASKED, MAX_UNASKED_BYTES}
use Rattle.rds_model.specs.Past.{Accepted, datagram, is_datagram, last_passed}
use Rattle.rds_model.specs.Streams.{was_pulled}
use Rattle.rds_model.specs.Alive.{due_numbers}

-- the frame asks for an acknowledgement
abbrev pub asks : Frame → Bool
asks f = carries ACK_REQUIRED f.header.flags

abbrev pub is_map_kind : Kind → Bool
is_map_kind Map = true
is_map_kind _ = false

-- the frame is a congestion map
abbrev pub is_map : Frame → Bool
is_map f = is_map_kind (kind_of f.header)

abbrev pub answers_kind : Kind → Bool
answers_kind Data = true
answers_kind Ack = true
answers_kind Map = false
answers_kind OddMap = false

-- the frame asks for an acknowledgement and is a datagram or an acknowledgement itself
abbrev pub wants_answer : Frame → Bool
wants_answer f = asks f && answers_kind (kind_of f.header)

-- the congestion map that was pulled last on stream s
abbrev pub last_map : ℕ → List Entry → Option (List ℕ)
last_map s [] = None
last_map s (Pull stream frame ∷ past) =
    if stream == s && is_map frame then Some frame.payload else last_map s past
last_map s (_ ∷ past) = last_map s past

-- the datagrams that were pulled on stream s after the last frame on it that asks for an acknowledgement, newest first
abbrev pub unasked : ℕ → List Entry → List Frame
unasked s [] = []
unasked s (Pull stream frame ∷ past) =
    if not (stream == s) then unasked s past
    else (if asks frame then [] else (if is_datagram frame then frame ∷ unasked s past else unasked s past))
unasked s (_ ∷ past) = unasked s past

-- a frame that wants an answer was read on stream s, and no frame was pulled on s after it
abbrev pub is_asked : ℕ → List Entry → Bool
is_asked s [] = false
is_asked s (Pull stream frame ∷ past) = not (stream == s) && is_asked s past
is_asked s (Read stream frame outcome ∷ past) = stream == s && wants_answer frame || is_asked s past
is_asked s (_ ∷ past) = is_asked s past

-- a datagram was pulled on stream s, and neither the last one nor any frame after it asks for an acknowledgement
abbrev pub must_ask : ℕ → List Entry → Bool
must_ask s [] = false
must_ask s (Pull stream frame ∷ past) =
    if stream == s then not (asks frame) && (is_datagram frame || must_ask s past) else must_ask s past
must_ask s (_ ∷ past) = must_ask s past

-- a header that acknowledges the last passed number; credit, padding and extensions are 0
unfoldable pub header_of : List Entry → ℕ → ℕ → ℕ → ℕ → ℕ → Header
header_of past number len sport dport flags =
    sealed (record {
      sequence = number;
      ack = last_passed past;
      len = len;
      sport = sport;
      dport = dport;
      flags = flags;
      credit = 0;
      padding = replicate 4 0;
      csum = 0;
      ext = replicate 16 0;
    })

-- the frame of a congestion map
abbrev pub map_frame : List Entry → List ℕ → Frame
map_frame past map = record { header = header_of past 0 MAP_LENGTH 0 0 CONG_BITMAP; payload = map }

-- a flag, or none
abbrev pub flag_if : Bool → ℕ → ℕ
flag_if set flag = if set then flag else 0

-- an acknowledgement, which may ask for one itself
abbrev pub ack_frame : List Entry → Bool → Frame
ack_frame past asking = record { header = header_of past 0 0 0 0 (flag_if asking ACK_REQUIRED); payload = [] }

-- datagram n has to ask for an acknowledgement: it was pulled before, or many datagrams or bytes went unasked, or no
-- other is due
abbrev pub asks_with : ℕ → List Entry → ℕ → Accepted → Bool
asks_with s past n d =
    was_pulled past n
    || (nat_le MAX_UNASKED (length (unasked s past))
    || (nat_lt MAX_UNASKED_BYTES (sum_by (λ (f : Frame). f.header.len) (unasked s past) + length d.payload)
    || list_all (λ m. m == n) (due_numbers s past)))

-- the flags of datagram n
abbrev pub data_flags : ℕ → List Entry → ℕ → Accepted → ℕ
data_flags s past n d =
    flag_if (was_pulled past n) RETRANSMITTED + flag_if (asks_with s past n d) ACK_REQUIRED

-- the frame of datagram n
abbrev pub data_frame : ℕ → List Entry → ℕ → Accepted → Frame
data_frame s past n d = record {
  header = header_of past n (length d.payload) d.sport d.dport (data_flags s past n d);
  payload = d.payload;
}

-- the map is the one that was pulled last on a stream
abbrev pub is_last_map : Option (List ℕ) → List ℕ → Bool
is_last_map None map = false
is_last_map (Some last) map = pointwise nat_eq last map

-- a frame where number n is due: its datagram, if it was accepted
abbrev pub data_owed : ℕ → List Entry → ℕ → Option Accepted → Option Frame
data_owed s past n None = None
data_owed s past n (Some d) = Some (data_frame s past n d)

-- the frame that is owed behind the map: the least number that is due, else an acknowledgement where one is asked for or
-- has to be
abbrev pub owed_after_map : ℕ → List Entry → List ℕ → Option Frame
owed_after_map s past (n ∷ due_numbers) = data_owed s past n (datagram past n)
owed_after_map s past [] =
    if is_asked s past || must_ask s past then Some (ack_frame past (must_ask s past)) else None

-- the frame that is owed on stream s where this end's own map is `map`: the map where it is new there, and else what is
-- owed behind it
abbrev pub owed_frame : ℕ → List Entry → List ℕ → Option Frame
owed_frame s past map =
    if is_last_map (last_map s past) map then owed_after_map s past (due_numbers s past) else Some (map_frame past map)
