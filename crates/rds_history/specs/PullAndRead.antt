-- A frame that is pulled at one host, and one that has come whole to another. Source: this project's own.
use Rattle.std.specs.Prelude.{ℕ, List, [], ◌∷◌}
use Rattle.std.specs.Option.{option_map_or}
use Rattle.rds_wire.specs.declared.frame.Frame.{Frame}
use Rattle.rds_model.specs.declared.entry.Entry.TheVariants.{Accept, Pull, Read}
use Rattle.rds_model.specs.declared.entry.Outcome.{Outcome}
use Rattle.rds_model.specs.declared.entry.Outcome.TheVariants as outcome
use Rattle.rds_model.specs.declared.entry.Verdict.{Verdict}
use Rattle.rds_model.specs.declared.entry.Verdict.TheVariants as verdict
use Rattle.rds_model.specs.declared.entry.TheConstants.{NO_SLOT}
use Rattle.rds_model.specs.Past.{open_stream}
use Rattle.rds_model.specs.Owed.{owed_frame}
use Rattle.rds_model.specs.Sums.{last_pulled_frame}
use Rattle.rds_model.specs.Reading.{verdict_of}
use Rattle.rds_history.specs.Events.{Event, Appended}
use Rattle.rds_history.specs.Journals.{journal, own_map}
use Rattle.rds_history.specs.Sockets.{holder}
use Rattle.rds_history.specs.Mark.{update_mark}

-- host h pulls the frame that it owes to k on this stream, if one is owed
abbrev pub pull_on : (h k stream : ℕ) → List Event → List Event
pull_on h k stream past =
    option_map_or (λ f. Appended h k (Pull stream f) ∷ past) (owed_frame stream (journal h k past) (own_map h past)) past

-- the same on the stream that is open, if one is
abbrev pub pull : (h k : ℕ) → List Event → List Event
pull h k past = option_map_or (λ stream. pull_on h k stream past) (open_stream (journal h k past)) past

-- what becomes of a frame with this verdict at host k: a datagram goes to the socket that holds its port
abbrev pub outcome_at : ℕ → Verdict → List Event → Outcome
outcome_at k (verdict.Deliver dport) past = option_map_or (λ slot. outcome.Slot slot) (holder k dport past) outcome.NoSocket
outcome_at k verdict.Old past = outcome.Old
outcome_at k verdict.Ping past = outcome.Ping
outcome_at k verdict.Void past = outcome.Void
outcome_at k verdict.AckOnly past = outcome.AckOnly
outcome_at k verdict.Map past = outcome.Map
outcome_at k verdict.OddMap past = outcome.OddMap

-- what follows a reading: a ping is answered at once, and the port of a socket may become congested
abbrev pub answer : (k h : ℕ) → Frame → Outcome → List Event → List Event
answer k h f outcome.Ping past = Appended k h (Accept NO_SLOT 0 f.header.sport []) ∷ past
answer k h f (outcome.Slot slot) past = update_mark k f.header.dport slot past
answer k h f _ past = past

-- host k reads a frame from h on this stream
abbrev pub read_on : (k h stream : ℕ) → Frame → List Event → List Event
read_on k h stream f past =
    let became = outcome_at k (verdict_of (journal k h past) f.header) past in
    answer k h f became (Appended k h (Read stream f became) ∷ past)

-- host k reads the frame that h pulled last, on the stream that is open
abbrev pub read : (k h : ℕ) → List Event → List Event
read k h past =
    option_map_or (λ stream. option_map_or (λ f. read_on k h stream f past) (last_pulled_frame (journal h k past)) past)
    (open_stream (journal k h past)) past
