-- What events keep, bytes that go keep: turns, moves and rounds.
use Rattle.std.proofs.Common.{◌≡◌, ℕ, zero, suc, ◌+◌, ◌-◌, ◌==◌, ◌≤◌, Bool, true, false, cond, Option, Some, None, Ok, List, [], ◌∷◌, length, refl, sym, subst, arith}
use Rattle.std.specs.Option.{option_map, option_map_or}
use Rattle.rds_wire.specs.declared.frame.Frame.{Frame}
use Rattle.rds_model.specs.declared.entry.Entry.{Entry}
use Rattle.rds_model.specs.declared.entry.Entry.TheVariants.{Accept, Pull, Read}
use Rattle.rds_model.specs.declared.entry.TheConstants.{NO_SLOT}
use Rattle.rds_model.specs.declared.entry.Outcome.{Outcome}
use Rattle.rds_model.specs.declared.entry.Outcome.TheVariants as outcome
use Rattle.rds_model.specs.declared.order.Datagram.{Datagram}
use Rattle.rds_model.specs.Owed.{owed_frame}
use Rattle.rds_model.specs.Past.{open_stream}
use Rattle.rds_model.specs.declared.entry.Verdict.TheVariants as verdict
use Rattle.rds_model.specs.Reading.{is_old, verdict_of, verdict_of_kind, verdict_of_ports}
use Rattle.rds_wire.specs.declared.kind.Kind.{Kind}
use Rattle.rds_wire.specs.declared.kind.Kind.TheVariants.{Data, Ack, Map, OddMap}
use Rattle.rds_wire.specs.Kinds.{kind_of}
use Rattle.rds_cong.specs.Limit.{congested_after}
use Rattle.rds_history.specs.Events.{Event, Appended, Bound, Closed, Received, Marked, Moved, Printed}
use Rattle.rds_history.specs.Courses.{and_then, if_room}
use Rattle.rds_model.specs.Sums.{last_pulled_frame}
use Rattle.rds_history.specs.Journals.{journal, moved_in_all, in_flight, is_marked, own_map}
use Rattle.rds_history.specs.Sockets.{next_slot, holder, queue, queued, receive_buffer}
use Rattle.rds_history.specs.Mark.{update_mark, if_changed}
use Rattle.rds_history.specs.Open.{open_both, shut_if_open}
use Rattle.rds_history.specs.PullAndRead.{pull, pull_on, read, read_on, answer, outcome_at}
use Rattle.rds_history.specs.Move.{move_piece, pull_if_idle, arrive, turn, move_up_to, portion}
use Rattle.rds_history.specs.Drain.{pairs, both_ways, round}
use Rattle.rds_history.proofs.Holding.{Holds, holds_then, holds_if_room, holds_each, holds_again}

-- an entry that opens and shuts no stream
abbrev pub IsQuiet : Entry → Type 0
IsQuiet e = (j : List Entry) → open_stream (e ∷ j) ≡ open_stream j

-- where host h appends this entry and it delivers a datagram to a slot, the socket of the slot holds the datagram's port
abbrev pub IsRouted : (h : ℕ) → Entry → List Event → Type 0
IsRouted h (Read stream f o) past = (slot : ℕ) → o ≡ outcome.Slot slot → holder h f.header.dport past ≡ Some slot
IsRouted h _ past = Unit {0}

-- what events keep; streams are opened, and shut, at both ends
pub record IsKept (P : List Event → Type 0) : Type 0 where
  pub printed : (text : List ℕ) (past : List Event) → P past → P (Printed text ∷ past)
  pub bound : (h port slot sndbuf rcvbuf : ℕ) (past : List Event) → P past → P (Bound h port slot sndbuf rcvbuf ∷ past)
  pub closed : (h port slot unread : ℕ) (past : List Event) → P past → P (Closed h port slot unread ∷ past)
  pub marked : (h port : ℕ) (set : Bool) (bytes most : ℕ) (past : List Event) → P past → P (Marked h port set bytes most ∷ past)
  pub moved : (h k count : ℕ) (past : List Event) → P past → P (Moved h k count ∷ past)
  pub received : (h port slot : ℕ) (d : Datagram) (waiting : List Datagram) (past : List Event) → queue h slot past ≡ d ∷ waiting → P past →
      P (Received h port slot d ∷ past)
  pub appended : (h k : ℕ) (e : Entry) (past : List Event) → IsQuiet e → P past → P (Appended h k e ∷ past)
  pub opened : (limit h k : ℕ) (past : List Event) → P past → Holds P (open_both limit h k past)
  pub shut : (limit h k : ℕ) (past : List Event) → P past → Holds P (and_then (shut_if_open limit h k past) (shut_if_open limit k h))

-- the same, where no more bytes go than are in flight, each socket takes the next slot, and datagrams go to the holder of
-- their port
pub record IsKeptInFlight (P : List Event → Type 0) : Type 0 where
  pub printed : (text : List ℕ) (past : List Event) → P past → P (Printed text ∷ past)
  pub bound : (h port slot sndbuf rcvbuf : ℕ) (past : List Event) → slot ≡ next_slot h past → P past → P (Bound h port slot sndbuf rcvbuf ∷ past)
  pub closed : (h port slot unread : ℕ) (past : List Event) → P past → P (Closed h port slot unread ∷ past)
  pub marked : (h port : ℕ) (set : Bool) (bytes most : ℕ) (past : List Event) → P past → P (Marked h port set bytes most ∷ past)
  pub moved : (h k count : ℕ) (past : List Event) → count ≤ length (in_flight h k past) → P past → P (Moved h k count ∷ past)
  pub received : (h port slot : ℕ) (d : Datagram) (waiting : List Datagram) (past : List Event) → queue h slot past ≡ d ∷ waiting → P past →
      P (Received h port slot d ∷ past)
  pub appended : (h k : ℕ) (e : Entry) (past : List Event) → IsQuiet e → IsRouted h e past → P past →
      P (Appended h k e ∷ past)
  pub opened : (limit h k : ℕ) (past : List Event) → P past → Holds P (open_both limit h k past)
  pub shut : (limit h k : ℕ) (past : List Event) → P past → Holds P (and_then (shut_if_open limit h k past) (shut_if_open limit k h))

pub in_flight_too : (P : List Event → Type 0) → IsKept P → IsKeptInFlight P
in_flight_too P kept = record {
  printed = kept.printed;
  bound = λ h port slot sndbuf rcvbuf past next p. kept.bound h port slot sndbuf rcvbuf past p;
  closed = kept.closed;
  marked = kept.marked;
  moved = λ h k count past within p. kept.moved h k count past p;
  received = kept.received;
  appended = λ h k e past quiet routed p. kept.appended h k e past quiet p;
  opened = kept.opened;
  shut = kept.shut;
}

-- what a verdict on a frame delivers goes to the holder of its port
routed_read : (k : ℕ) (f : Frame) (j : List Entry) (past : List Event) (slot : ℕ) → outcome_at k (verdict_of j f.header) past ≡ outcome.Slot slot →
    holder k f.header.dport past ≡ Some slot
routed_read k f j past slot is = by_kind (kind_of f.header) is
  where
    by_holder : (o : Option ℕ) → option_map_or (λ slot. outcome.Slot slot) o outcome.NoSocket ≡ outcome.Slot slot → o ≡ Some slot
    by_holder None is = cc
    by_holder (Some at) is = cc

    by_port : (ping none : Bool) → outcome_at k (cond none (cond ping verdict.Void verdict.Ping) (verdict.Deliver f.header.dport)) past ≡ outcome.Slot slot →
        holder k f.header.dport past ≡ Some slot
    by_port true true is = cc
    by_port false true is = cc
    by_port ping false is = by_holder (holder k f.header.dport past) is

    by_age : (old : Bool) → outcome_at k (cond old verdict.Old (verdict_of_ports f.header.sport f.header.dport)) past ≡ outcome.Slot slot →
        holder k f.header.dport past ≡ Some slot
    by_age true is = cc
    by_age false is = by_port (f.header.sport == 0) (f.header.dport == 0) is

    by_kind : (kind : Kind) → outcome_at k (verdict_of_kind kind j f.header) past ≡ outcome.Slot slot → holder k f.header.dport past ≡ Some slot
    by_kind Data is = by_age (is_old j f.header) is
    by_kind Ack is = cc
    by_kind Map is = cc
    by_kind OddMap is = cc

within_portion : (left : Option ℕ) (count : ℕ) → portion left count ≤ count
within_portion None count = omega arith
within_portion (Some most) count = omega arith

module _ (P : List Event → Type 0) (kept : IsKeptInFlight P) where
  pub keeps_update_mark : (h port slot : ℕ) (past : List Event) → P past → P (update_mark h port slot past)
  keeps_update_mark h port slot past p =
      go (is_marked h port past) (congested_after (is_marked h port past) (queued h slot past) (receive_buffer h slot past))
      (Marked h port (congested_after (is_marked h port past) (queued h slot past) (receive_buffer h slot past)) (queued h slot past) (receive_buffer h slot past))
      (λ q. kept.marked h port (congested_after (is_marked h port past) (queued h slot past) (receive_buffer h slot past)) (queued h slot past) (receive_buffer h slot past) past q)
    where
      go : (was is : Bool) (event : Event) → (P past → P (event ∷ past)) → P (if_changed was is event past)
      go true true event step = p
      go true false event step = step p
      go false true event step = step p
      go false false event step = p

  -- bytes that go
  keeps_pull_on : (h k stream : ℕ) (past : List Event) → P past → P (pull_on h k stream past)
  keeps_pull_on h k stream past p = go (owed_frame stream (journal h k past) (own_map h past))
    where
      go : (o : Option Frame) → P (option_map_or (λ f. Appended h k (Pull stream f) ∷ past) o past)
      go None = p
      go (Some f) = kept.appended h k (Pull stream f) past (λ j. refl) tt p

  keeps_pull : (h k : ℕ) (past : List Event) → P past → P (pull h k past)
  keeps_pull h k past p = go (open_stream (journal h k past))
    where
      go : (o : Option ℕ) → P (option_map_or (λ stream. pull_on h k stream past) o past)
      go None = p
      go (Some stream) = keeps_pull_on h k stream past p

  keeps_answer : (k h : ℕ) (f : Frame) (o : Outcome) (past : List Event) → P past → P (answer k h f o past)
  keeps_answer k h f outcome.Ping past p = kept.appended k h (Accept NO_SLOT 0 f.header.sport []) past (λ j. refl) tt p
  keeps_answer k h f (outcome.Slot slot) past p = keeps_update_mark k f.header.dport slot past p
  keeps_answer k h f outcome.Old past p = p
  keeps_answer k h f outcome.NoSocket past p = p
  keeps_answer k h f outcome.Void past p = p
  keeps_answer k h f outcome.AckOnly past p = p
  keeps_answer k h f outcome.Map past p = p
  keeps_answer k h f outcome.OddMap past p = p

  keeps_read_on : (k h stream : ℕ) (f : Frame) (past : List Event) → P past → P (read_on k h stream f past)
  keeps_read_on k h stream f past p =
      let became = outcome_at k (verdict_of (journal k h past) f.header) past in
      keeps_answer k h f became (Appended k h (Read stream f became) ∷ past) (kept.appended k h (Read stream f became) past (λ j. refl) (routed_read k f (journal k h past) past) p)

  keeps_read : (k h : ℕ) (past : List Event) → P past → P (read k h past)
  keeps_read k h past p = go (open_stream (journal k h past)) (last_pulled_frame (journal h k past))
    where
      go : (o : Option ℕ) (w : Option Frame) → P (option_map_or (λ stream. option_map_or (λ f. read_on k h stream f past) w past) o past)
      go None w = p
      go (Some stream) None = p
      go (Some stream) (Some f) = keeps_read_on k h stream f past p

  keeps_move_piece : (h k count : ℕ) (past : List Event) → count ≤ length (in_flight h k past) → P past → P (move_piece h k count past)
  keeps_move_piece h k count past within p = go (length (in_flight h k (Moved h k count ∷ past)) == 0)
    where
      q : P (Moved h k count ∷ past)
      q = kept.moved h k count past within p

      go : (whole : Bool) → P (cond whole (read k h (Moved h k count ∷ past)) (Moved h k count ∷ past))
      go true = keeps_read k h (Moved h k count ∷ past) q
      go false = q

  keeps_pull_if_idle : (limit h k : ℕ) (past : List Event) → P past → Holds P (pull_if_idle limit h k past)
  keeps_pull_if_idle limit h k past p = go (length (in_flight h k past) == 0)
    where
      go : (idle : Bool) → Holds P (cond idle (and_then (if_room limit h k past) (λ (before : List Event). Ok (pull h k before))) (Ok past))
      go true = holds_then P P (if_room limit h k past) (λ (before : List Event). Ok (pull h k before)) (holds_if_room P limit h k past p)
          (λ before there. keeps_pull h k before there)
      go false = p

  keeps_arrive : (limit h k : ℕ) (left : Option ℕ) (past : List Event) → P past → Holds P (arrive limit h k left past)
  keeps_arrive limit h k left past p = go (length (in_flight h k past) == 0)
    where
      go : (idle : Bool) → Holds P (cond idle (Ok past)
          (and_then (if_room limit k h past) (λ (before : List Event). Ok (move_piece h k (portion left (length (in_flight h k past))) before))))
      go true = p
      go false = holds_then (λ before. (before ≡ past) × P before) P (if_room limit k h past)
          (λ (before : List Event). Ok (move_piece h k (portion left (length (in_flight h k past))) before))
          (holds_if_room (λ before. (before ≡ past) × P before) limit k h past (refl, p))
          (λ before there. keeps_move_piece h k (portion left (length (in_flight h k past))) before
          (subst (λ (l : List Event). portion left (length (in_flight h k past)) ≤ length (in_flight h k l)) (sym there.0)
          (within_portion left (length (in_flight h k past)))) there.1)

  keeps_turned : (limit h k : ℕ) (left : Option ℕ) (past : List Event) → P past → Holds P (and_then (pull_if_idle limit h k past) (arrive limit h k left))
  keeps_turned limit h k left past p =
      holds_then P P (pull_if_idle limit h k past) (arrive limit h k left) (keeps_pull_if_idle limit h k past p) (λ loaded there. keeps_arrive limit h k left loaded there)

  pub keeps_turn : (limit h k : ℕ) (left : Option ℕ) (past : List Event) → P past → Holds P (turn limit h k left past)
  keeps_turn limit h k None past p = keeps_turned limit h k None past p
  keeps_turn limit h k (Some zero) past p = p
  keeps_turn limit h k (Some (suc n)) past p = keeps_turned limit h k (Some (suc n)) past p

  pub keeps_move_up_to : (limit h k : ℕ) (most : Option ℕ) (past : List Event) → P past → Holds P (move_up_to limit h k most past)
  keeps_move_up_to limit h k most past p =
      holds_again P (limit + 1) (λ before. turn limit h k (option_map (λ n. n - moved_in_all before) most) before) past p
      (λ before there. keeps_turn limit h k (option_map (λ n. n - moved_in_all before) most) before there)

  pub keeps_round : (limit hosts : ℕ) (past : List Event) → P past → Holds P (round limit hosts past)
  keeps_round limit hosts past p =
      holds_each P (pairs hosts) (both_ways limit) past p
      (λ pair then_ q. holds_then P P (move_up_to limit pair.low pair.high None then_) (move_up_to limit pair.high pair.low None)
      (keeps_move_up_to limit pair.low pair.high None then_ q) (λ later r. keeps_move_up_to limit pair.high pair.low None later r))
