-- What happens at both ends of a connection at once. Source: this project's own.
use Rattle.std.specs.Prelude.{◌≡◌, ℕ, suc, ◌<◌, Option, Some, List, [], ◌∷◌, ◌++◌, length}
use Rattle.rds_wire.specs.declared.frame.Frame.{Frame}
use Rattle.rds_model.specs.declared.entry.Entry.TheVariants.{Open, Read, Shut}
use Rattle.rds_model.specs.declared.entry.Outcome.{Outcome}
use Rattle.rds_model.specs.declared.entry.Outcome.TheVariants as outcome
use Rattle.rds_model.specs.Past.{newest_stream, open_stream}
use Rattle.rds_model.specs.Reading.{verdict_of}
use Rattle.rds_model.specs.Sums.{last_pulled_frame}
use Rattle.rds_conn.specs.Passing.{outcome_of}
use Rattle.rds_play_pair.specs.Changes.{found_for}
use Rattle.rds_play_pair.specs.Ends.{JointEnd}
use Rattle.rds_play_pair.specs.Steps.{read_as}
use Rattle.rds_play_mesh.specs.Ends.{ChangesPair, end_at}
use Rattle.rds_history.specs.Courses.{Course, and_then}
use Rattle.rds_history.specs.Events.{Event, Appended}
use Rattle.rds_history.specs.Journals.{in_flight, journal}
use Rattle.rds_history.specs.Open.{shut_if_open}
use Rattle.rds_history.specs.Transcript.{entry_line}
use Rattle.rds_play_world.specs.Telling.{State, Tells, TellsWaiting, one_waits}

-- host h opens its next stream to k
abbrev pub opened_at : (h k : ℕ) → List Event → List Event
opened_at h k past = Appended h k (Open (suc (newest_stream (journal h k past)))) ∷ past

-- both open their next stream, first h and then k
abbrev pub both_opened : (h k : ℕ) → List Event → List Event
both_opened h k past = opened_at k h (opened_at h k past)

-- both shut this stream, first h and then k
abbrev pub both_shut : (h k stream : ℕ) → List Event → List Event
both_shut h k stream past = Appended k h (Shut stream) ∷ Appended h k (Shut stream) ∷ past

-- each shuts its stream, if it has one, and if its journal has room
abbrev pub shut_both : (limit h k : ℕ) → List Event → Course
shut_both limit h k past = and_then (shut_if_open limit h k past) (shut_if_open limit k h)

-- the frame that h pulled last has come whole to k, which has this stream open, and waits there
pub record FrameWaits (limit hosts k h stream : ℕ) (f : Frame) (past : List Event) (s : State) : Type 0 where
  pub tells : TellsWaiting (one_waits k h (Some f)) limit hosts past s
  pub newest : last_pulled_frame (journal h k past) ≡ Some f
  pub on : open_stream (journal k h past) ≡ Some stream

-- bytes have come from h to k: with the last of them the whole frame waits there
pub record BytesCame (limit hosts h k : ℕ) (past : List Event) (s : State) : Type 0 where
  pub flying : (end_at h k s.mesh).flying ≡ in_flight h k past
  pub whole : in_flight h k past ≡ [] → (stream : ℕ) × (f : Frame) × FrameWaits limit hosts k h stream f past s
  pub part : 0 < length (in_flight h k past) → Tells limit hosts past s

-- what becomes of a frame at an end, where the socket of this slot holds its port, or none does
abbrev pub outcome_here : (slot : Option ℕ) → JointEnd → Frame → Outcome
outcome_here slot e f = outcome_of (verdict_of e.past f.header) (found_for e.slots slot (verdict_of e.past f.header))

-- nothing answers the frame, and it goes to no socket and is no map
abbrev pub IsOnlyPassed : Outcome → Type 0
IsOnlyPassed (outcome.Slot slot) = ⊥
IsOnlyPassed outcome.Ping = ⊥
IsOnlyPassed outcome.Map = ⊥
IsOnlyPassed _ = Unit {0}

-- host h read a frame from k on a stream, with this outcome, and its line was printed; directly behind a ping its pong was
-- accepted
pub record IsRead (h k stream : ℕ) (f : Frame) (o : Outcome) (old new : State) : Type 0 where
  pub ends : ChangesPair h k (read_as stream f o (end_at h k old.mesh)) (end_at k h old.mesh) old.mesh new.mesh
  pub rest : new ≡ record old { mesh = new.mesh; text = old.text ++ entry_line h k (end_at h k old.mesh).past (Read stream f o) }
