-- Words for what a move and a drain leave behind. Source: this project's own.
use Rattle.std.specs.Prelude.{◌≡◌, ◌≤◌, ◌⊎◌, ℕ, Option, Some, None, List, [], length}
use Rattle.std.specs.Option.{option_and_then}
use Rattle.rds_wire.specs.declared.frame.Frame.{Frame}
use Rattle.rds_model.specs.Past.{open_stream}
use Rattle.rds_model.specs.Streams.{written_bytes}
use Rattle.rds_model.specs.Owed.{last_map, owed_frame}
use Rattle.rds_history.specs.Events.{Event}
use Rattle.rds_history.specs.Journals.{journal, moved_count, in_flight, own_map}
use Rattle.rds_history.specs.Courses.{Course}
use Rattle.rds_history.specs.Move.{turn, bytes_left}

-- no more bytes went over an open stream than were written to it
abbrev pub MovesOnlyWritten : List Event → Type 0
MovesOnlyWritten past =
    (h k stream : ℕ) → open_stream (journal h k past) ≡ Some stream → moved_count h k past ≤ length (written_bytes stream (journal h k past))

-- one turn of a move until `most` bytes were moved in all
abbrev pub turn_up_to : (limit h k : ℕ) → (most : Option ℕ) → List Event → Course
turn_up_to limit h k most past = turn limit h k (bytes_left most past) past

-- the frame that host h owes to k for its own map, if a stream is open and one is owed on it
abbrev pub owed_to : (h k : ℕ) → List Event → Option Frame
owed_to h k past =
    option_and_then (λ stream. owed_frame stream (journal h k past) (own_map h past)) (open_stream (journal h k past))

-- host h has nothing to send to k: nothing is in flight, and no frame is owed
pub record HasNothingToSend (h k : ℕ) (past : List Event) : Type 0 where
  pub nothing_flies : in_flight h k past ≡ []
  pub nothing_owed : owed_to h k past ≡ None

-- a move until `most` bytes were moved in all has come to its end: they were moved, or there is nothing to send
abbrev pub IsMoved : (h k : ℕ) → (most : Option ℕ) → List Event → Type 0
IsMoved h k most past = (bytes_left most past ≡ Some 0) ⊎ HasNothingToSend h k past

-- What a drain leaves between hosts h and k: one stream is open at both ends, nothing is in flight either way, neither owes
-- a frame for its own map, and this was the last map that it sent.
pub record IsDrained (h k : ℕ) (past : List Event) : Type 0 where
  pub stream : ℕ
  pub open_here : open_stream (journal h k past) ≡ Some stream
  pub open_there : open_stream (journal k h past) ≡ Some stream
  pub nothing_flies : in_flight h k past ≡ []
  pub nothing_flies_back : in_flight k h past ≡ []
  pub nothing_owed : owed_frame stream (journal h k past) (own_map h past) ≡ None
  pub nothing_owed_back : owed_frame stream (journal k h past) (own_map k past) ≡ None
  pub map_sent : last_map stream (journal h k past) ≡ Some (own_map h past)
  pub map_sent_back : last_map stream (journal k h past) ≡ Some (own_map k past)
