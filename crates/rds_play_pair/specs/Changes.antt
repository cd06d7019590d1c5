-- What each step does to one end, or to both. Source: this project's own.
use Rattle.std.specs.Prelude.{◌≡◌, ℕ, ◌+◌, ◌<◌, ◌≤◌, ◌&&◌, nat_lt, nat_le, min, if◌then◌else◌, Bool, false, Option, Some, None, IsSome, List, [], ◌∷◌, ◌++◌, length, take, drop}
use Rattle.rds_wire.specs.declared.frame.Frame.{Frame}
use Rattle.rds_wire.specs.declared.kind.TheConstants.{MAX_LENGTH}
use Rattle.rds_wire.specs.Bytes.{frame_bytes}
use Rattle.rds_model.specs.declared.entry.Entry.{Entry}
use Rattle.rds_model.specs.declared.entry.Entry.TheVariants as entry
use Rattle.rds_model.specs.declared.entry.Target.TheVariants as target
use Rattle.rds_model.specs.declared.entry.TheConstants.{NO_SLOT}
use Rattle.rds_model.specs.declared.entry.Outcome.{Outcome}
use Rattle.rds_model.specs.declared.entry.Verdict.{Verdict}
use Rattle.rds_model.specs.declared.entry.Verdict.TheVariants as verdict
use Rattle.rds_model.specs.declared.order.Order.{Order}
use Rattle.rds_model.specs.declared.order.Order.TheVariants as order
use Rattle.rds_model.specs.Past.{open_stream, newest_stream}
use Rattle.rds_model.specs.Owed.{owed_frame}
use Rattle.rds_model.specs.Reading.{verdict_of}
use Rattle.rds_model.specs.Legal.{pong_for}
use Rattle.rds_conn.specs.declared.conn.Found.{Found}
use Rattle.rds_conn.specs.declared.conn.Found.TheVariants as found
use Rattle.rds_conn.specs.Passing.{outcome_of}
use Rattle.rds_play_pair.specs.declared.step.PairEnd.{PairEnd}
use Rattle.rds_play_pair.specs.declared.step.PairEnd.TheVariants.{First, Second}
use Rattle.rds_play_pair.specs.Sides.{Side, Sides, unpassed_bytes}

-- an end takes the order: its slot is one of the host's, its payload isn't too long, and it is no cut
abbrev pub is_allowed : ℕ → Order → Bool
is_allowed slots (order.Send slot sport dport payload) = nat_lt slot slots && nat_le (length payload) MAX_LENGTH
is_allowed slots (order.Cancel slot dport) = nat_lt slot slots
is_allowed slots (order.CloseSocket slot) = nat_lt slot slots
is_allowed slots order.Cut = false

-- the entry of an order
abbrev pub entries_of : Order → List Entry
entries_of (order.Send slot sport dport payload) = entry.Accept slot sport dport payload ∷ []
entries_of (order.Cancel slot dport) = entry.Cancel slot (target.Port dport) ∷ []
entries_of (order.CloseSocket slot) = entry.Cancel slot target.All ∷ []
entries_of order.Cut = []

-- an order was given, and was taken if it is allowed
abbrev pub ordered : Order → Side → Side
ordered order e = if is_allowed e.slots order then record e { past = entries_of order ++ e.past } else e

-- this was owed to stream s, and was pulled
abbrev pub with_pull : ℕ → Option Frame → Side → Side
with_pull s None e = e
with_pull s (Some f) e = record e { past = entry.Pull s f ∷ e.past; flying = e.flying ++ frame_bytes f }

abbrev pub with_owed_on : Option ℕ → List ℕ → Side → Side
with_owed_on None map e = e
with_owed_on (Some s) map e = with_pull s (owed_frame s e.past map) e

-- what is owed to the open stream was pulled, where the host's own map is `map`
abbrev pub pulled : List ℕ → Side → Side
pulled map e = with_owed_on (open_stream e.past) map e

-- the socket of this slot holds a datagram's port, or none; no socket has a slot past the last
abbrev pub found_slot : ℕ → Option ℕ → Found
found_slot slots None = found.NoSocket
found_slot slots (Some slot) = if nat_lt slot slots then found.Slot slot else found.NoSocket

-- the port is looked up exactly where the frame is to be delivered
abbrev pub found_for : ℕ → Option ℕ → Verdict → Found
found_for slots slot (verdict.Deliver dport) = found_slot slots slot
found_for slots slot _ = found.Unasked

-- the acceptance of a pong, if one is owed to a port
abbrev pub pong_entries : Option ℕ → List Entry
pong_entries None = []
pong_entries (Some port) = entry.Accept NO_SLOT 0 port [] ∷ []

-- a frame was read on stream s, and directly behind a ping its pong was accepted
abbrev pub read_as : ℕ → Frame → Outcome → Side → Side
read_as s f came e =
    record e { past = pong_entries (pong_for came f.header.sport) ++ entry.Read s f came ∷ e.past; waiting = None }

abbrev pub passed_on : Option ℕ → Option Frame → Option ℕ → Side → Side
passed_on (Some s) (Some f) slot e =
    let verdict = verdict_of e.past f.header in
    read_as s f (outcome_of verdict (found_for e.slots slot verdict)) e
passed_on _ _ slot e = e

-- the frame that waits was passed, if one does: a datagram to the socket of `slot`, or to none
abbrev pub passed : Option ℕ → Side → Side
passed slot e = passed_on (open_stream e.past) e.waiting slot e

-- a stream was opened, and nothing is in flight on it
abbrev pub opened : ℕ → Side → Side
opened s e = record e { past = entry.Open s ∷ e.past; flying = [] }

abbrev pub opened_from : Option ℕ → Option ℕ → Sides → Sides
opened_from None None p =
    let s = newest_stream p.first.past + 1 in
    record { first = opened s p.first; second = opened s p.second }
opened_from _ _ p = p

-- the next stream was opened at both ends, if none was open at either
abbrev pub opened_at_both : Sides → Sides
opened_at_both p = opened_from (open_stream p.first.past) (open_stream p.second.past) p

abbrev pub shut_from : Option ℕ → Side → Side
shut_from None e = e
shut_from (Some s) e = record e { past = entry.Shut s ∷ e.past; waiting = None; rest = [] }

-- the open stream was shut, if one was
abbrev pub shut_one : Side → Side
shut_one e = shut_from (open_stream e.past) e

-- what was in flight is lost
abbrev pub without_flight : Side → Side
without_flight e = record e { flying = [] }

-- one end was shut, and what was in flight to it is lost
abbrev pub shut_at : PairEnd → Sides → Sides
shut_at First p = record { first = shut_one p.first; second = without_flight p.second }
shut_at Second p = record { first = without_flight p.first; second = shut_one p.second }

-- both ends were shut, and what was in flight is lost
abbrev pub cut_pair : Sides → Sides
cut_pair p = record { first = without_flight (shut_one p.first); second = without_flight (shut_one p.second) }

-- The first bytes of what is in flight to a reader, at most `bytes`, went from the writer's queue to the reader, which took
-- as much as makes a frame whole, and nothing where one waits or no stream is open.
pub record Moves (bytes used : ℕ) (writer writer_new reader reader_new : Side) : Type 0 where
  pub within : used ≤ min bytes (length writer.flying)
  pub gone : writer_new ≡ record writer { flying = drop used writer.flying }
  pub came : unpassed_bytes reader_new ≡ unpassed_bytes reader ++ take used writer.flying
  pub rest_same : reader_new ≡ record reader { waiting = reader_new.waiting; rest = reader_new.rest }
  pub idle : open_stream reader.past ≡ None → used ≡ 0
  pub all : IsSome (open_stream reader.past) → reader_new.waiting ≡ None → used ≡ min bytes (length writer.flying)
  pub progress : reader.waiting ≡ None → IsSome reader_new.waiting → 0 < used

-- so many bytes moved to one end
abbrev pub MovesTo : PairEnd → ℕ → ℕ → Sides → Sides → Type 0
MovesTo First bytes used old new = Moves bytes used old.second new.second old.first new.first
MovesTo Second bytes used old new = Moves bytes used old.first new.first old.second new.second
