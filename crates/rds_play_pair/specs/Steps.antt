-- What each call does to a joint. Where it can't be done, nothing changes. Source: this project's own.
use Rattle.std.specs.Prelude.{ℕ, ◌+◌, if◌then◌else◌, Option, Some, None, List, [], ◌∷◌, ◌++◌, drop}
use Rattle.rds_wire.specs.declared.frame.Frame.{Frame}
use Rattle.rds_wire.specs.Bytes.{frame_bytes}
use Rattle.rds_model.specs.declared.entry.Entry.{Entry}
use Rattle.rds_model.specs.declared.entry.Entry.TheVariants as entry
use Rattle.rds_model.specs.declared.entry.Outcome.{Outcome}
use Rattle.rds_model.specs.declared.order.Order.{Order}
use Rattle.rds_model.specs.Past.{open_stream, newest_stream}
use Rattle.rds_model.specs.Owed.{owed_frame}
use Rattle.rds_model.specs.Sums.{last_pulled_frame}
use Rattle.rds_model.specs.Reading.{verdict_of}
use Rattle.rds_model.specs.Legal.{pong_for}
use Rattle.rds_conn.specs.Passing.{outcome_of}
use Rattle.rds_play_pair.specs.declared.step.PairEnd.{PairEnd}
use Rattle.rds_play_pair.specs.declared.step.PairEnd.TheVariants.{First, Second}
use Rattle.rds_play_pair.specs.Changes.{entries_of, found_for, is_allowed, pong_entries}
use Rattle.rds_play_pair.specs.Ends.{JointEnd, JointEnds}

-- an order was given, and was taken if it is allowed
abbrev pub ordered : Order → JointEnd → JointEnd
ordered order e = if is_allowed e.slots order then record e { past = entries_of order ++ e.past } else e

-- the next stream was opened, if none was open
abbrev pub opened_from : Option ℕ → JointEnd → JointEnd
opened_from None e = record e { past = entry.Open (newest_stream e.past + 1) ∷ e.past }
opened_from (Some s) e = e

abbrev pub opened : JointEnd → JointEnd
opened e = opened_from (open_stream e.past) e

-- the open stream was shut, if one was: the frame that waited and what was in flight are lost
abbrev pub shut_from : Option ℕ → JointEnd → JointEnd
shut_from None e = e
shut_from (Some s) e = record e { past = entry.Shut s ∷ e.past; waiting = None; flying = [] }

abbrev pub stream_shut : JointEnd → JointEnd
stream_shut e = shut_from (open_stream e.past) e

-- this is owed to stream s, and was pulled
abbrev pub with_pull : ℕ → Option Frame → JointEnd → JointEnd
with_pull s None e = e
with_pull s (Some f) e = record e { past = entry.Pull s f ∷ e.past; flying = frame_bytes f }

-- a frame was pulled on the stream that is open, if one is, where nothing was in flight and nothing waited at the other end
abbrev pub pulled_from : Option ℕ → (flying : List ℕ) → (there : Option Frame) → (map : List ℕ) → JointEnd → JointEnd
pulled_from (Some s) [] None map e = with_pull s (owed_frame s e.past map) e
pulled_from _ _ _ map e = e

-- what is owed was pulled, where the host's own map is `map`, and `there` waits at the other end
abbrev pub pulled : (map : List ℕ) → (there : Option Frame) → JointEnd → JointEnd
pulled map there e = pulled_from (open_stream e.past) e.flying there map e

-- so many bytes in flight went
abbrev pub went : ℕ → (writer : JointEnd) → JointEnd
went count writer = record writer { flying = drop count writer.flying }

-- the frame that the writer pulled last has come, where bytes were in flight and none is left
abbrev pub came_from : (flying left : List ℕ) → (writer reader : JointEnd) → JointEnd
came_from [] left writer reader = reader
came_from (byte ∷ bytes) [] writer reader = record reader { waiting = last_pulled_frame writer.past }
came_from (byte ∷ bytes) (next ∷ more) writer reader = reader

abbrev pub came : ℕ → (writer reader : JointEnd) → JointEnd
came count writer reader = came_from writer.flying (drop count writer.flying) writer reader

-- so many bytes went to one end
abbrev pub fed : (to : PairEnd) → ℕ → JointEnds → JointEnds
fed First count p = record { first = came count p.second p.first; second = went count p.second }
fed Second count p = record { first = went count p.first; second = came count p.first p.second }

-- a frame was read on stream s, and directly behind a ping its pong was accepted
abbrev pub read_as : ℕ → Frame → Outcome → JointEnd → JointEnd
read_as s f came e =
    record e { past = pong_entries (pong_for came f.header.sport) ++ entry.Read s f came ∷ e.past; waiting = None }

abbrev pub passed_from : Option ℕ → (waiting : Option Frame) → (slot : Option ℕ) → JointEnd → JointEnd
passed_from (Some s) (Some f) slot e =
    let verdict = verdict_of e.past f.header in
    read_as s f (outcome_of verdict (found_for e.slots slot verdict)) e
passed_from _ _ slot e = e

-- the frame that waits was passed, if one does: a datagram to the socket of `slot`, or to none
abbrev pub passed : (slot : Option ℕ) → JointEnd → JointEnd
passed slot e = passed_from (open_stream e.past) e.waiting slot e
