-- What a past keeps where bytes go from one host to another.
use Rattle.std.proofs.Common.{◌≡◌, ◌≢◌, inl, inr, ℕ, zero, suc, ◌+◌, ◌-◌, ◌<◌, ◌≤◌, ◌^◌, ◌==◌, Bool, true, false, cond, Option, Some, None, Ok, Err, List, [], ◌∷◌, ◌++◌, length, refl, sym, ◌∙◌, ap, subst, arith, length-drop}
use Rattle.std.specs.Prelude.{nat_lt}
use Rattle.std.specs.Option.{option_map, option_map_or}
use Rattle.std.proofs.lemmas.Bool.{ltb-false, eqb-true, eqb-false}
use Rattle.rds_wire.specs.declared.frame.Frame.{Frame}
use Rattle.rds_wire.specs.Bytes.{frame_bytes}
use Rattle.rds_model.specs.declared.entry.Entry.{Entry}
use Rattle.rds_model.specs.declared.entry.Entry.TheVariants.{Accept, Pull, Read}
use Rattle.rds_model.specs.declared.entry.Outcome.{Outcome}
use Rattle.rds_model.specs.declared.entry.Outcome.TheVariants as outcome
use Rattle.rds_model.specs.declared.entry.Verdict.{Verdict}
use Rattle.rds_model.specs.declared.entry.Verdict.TheVariants as verdict
use Rattle.rds_model.specs.declared.entry.TheConstants.{NO_SLOT, MAX_SLOTS}
use Rattle.rds_model.specs.Past.{open_stream, accepted, last_passed}
use Rattle.rds_model.specs.Streams.{written_bytes, read_bytes}
use Rattle.rds_model.specs.Sums.{last_pulled_frame}
use Rattle.rds_model.specs.Owed.{owed_frame}
use Rattle.rds_model.specs.Reading.{verdict_of, Obeys, IsDelivered}
use Rattle.rds_model.specs.Legal.{pong_for}
use Rattle.rds_cong.specs.Limit.{congested_after}
use Rattle.rds_history.specs.Events.{Event, Appended, Marked, Moved}
use Rattle.rds_history.specs.Courses.{Course, and_then, if_room}
use Rattle.rds_history.specs.Journals.{journal, moved_count, moved_in_all, written_to_open, in_flight, is_marked, own_map}
use Rattle.rds_history.specs.Sockets.{holder, queued, receive_buffer}
use Rattle.rds_history.specs.Mark.{update_mark, if_changed}
use Rattle.rds_history.specs.PullAndRead.{pull, pull_on, read, read_on, answer, outcome_at}
use Rattle.rds_history.specs.Move.{move_piece, pull_if_idle, arrive, turn, move_up_to, portion}
use Rattle.rds_history.proofs.EventInvariants.{Holds, holds_then, holds_again}
use Rattle.rds_history.proofs.OneMap.{length-own_map, IsBytes-own_map}
use Rattle.rds_history.proofs.JoinedEnds.{Ends, AreJoined, IsOnItsWay, IsGoing, going_of, joined_pulled, joined_moved}
use Rattle.rds_history.proofs.JoinedReads.{HonestLaws, joined_read, joined_pinged}
use Rattle.rds_history.proofs.PastEnds.{ends, AreTwo, Keeps, IsStill, still_then, still_turned, keeps_later, still_appended, appended_here, appended_there, still_moved, moved_here, keeps_marked}

-- what holds where a journal has room for two more entries holds where the course goes on
pub holds_room : (P : List Event → Type 0) (limit h k : ℕ) (past : List Event) (next : List Event → Course) →
    (length (journal h k past) + 2 ≤ limit → Holds P (next past)) → Holds P (and_then (if_room limit h k past) next)
holds_room P limit h k past next step = go (nat_lt limit (length (journal h k past) + 2)) refl
  where
    go : (b : Bool) → nat_lt limit (length (journal h k past) + 2) ≡ b →
        Holds P (and_then (cond b (Err (record { host = h; peer = k; entries = length (journal h k past) })) (Ok past)) next)
    go true is = tt
    go false is = step (ltb-false limit (length (journal h k past) + 2) is)

-- no more datagrams were accepted than there are entries
pub accepted_within : (past : List Entry) → accepted past ≤ length past
accepted_within [] = omega arith
accepted_within (Accept slot sport dport payload ∷ past) = omega (arith, accepted_within past)
accepted_within (_ ∷ past) = omega (arith, accepted_within past)

-- a port may become congested or free
pub keeps_update_mark : (hosts h port slot : ℕ) (past : List Event) → Keeps hosts past → Keeps hosts (update_mark h port slot past)
keeps_update_mark hosts h port slot past keeps =
    go (is_marked h port past) (congested_after (is_marked h port past) (queued h slot past) (receive_buffer h slot past))
    (Marked h port (congested_after (is_marked h port past) (queued h slot past) (receive_buffer h slot past)) (queued h slot past) (receive_buffer h slot past))
    (keeps_marked hosts h port (congested_after (is_marked h port past) (queued h slot past) (receive_buffer h slot past)) (queued h slot past) (receive_buffer h slot past) past keeps)
  where
    go : (was is : Bool) (event : Event) → Keeps hosts (event ∷ past) → Keeps hosts (if_changed was is event past)
    go true true event marked = keeps
    go true false event marked = marked
    go false true event marked = marked
    go false false event marked = keeps

-- how many bytes are in flight
pub flying : (h k s : ℕ) (past : List Event) → open_stream (journal h k past) ≡ Some s →
    length (in_flight h k past) ≡ length (written_bytes s (journal h k past)) - moved_count h k past
flying h k s past on =
    length-drop (moved_count h k past) (written_to_open (journal h k past))
    ∙ ap (λ (o : Option ℕ). length (option_map_or (λ stream. written_bytes stream (journal h k past)) o []) - moved_count h k past) on

none_flies : (h k : ℕ) (past : List Event) → open_stream (journal h k past) ≡ None → length (in_flight h k past) ≡ 0
none_flies h k past closed =
    length-drop (moved_count h k past) (written_to_open (journal h k past))
    ∙ ap (λ (o : Option ℕ). length (option_map_or (λ stream. written_bytes stream (journal h k past)) o []) - moved_count h k past) closed
    ∙ omega arith

-- no more went than was written
pub went_within : (s : ℕ) (w r : List Entry) (moved : ℕ) → IsOnItsWay s w r moved → moved ≤ length (written_bytes s w)
went_within s w r moved (inl idle) = omega (arith, idle.all)
went_within s w r moved (inr going) = omega (arith, going.some_fly)

-- the outcome at a host is what the verdict says
obeys_at : (k : ℕ) (v : Verdict) (past : List Event) → ((port slot : ℕ) → holder k port past ≡ Some slot → slot < MAX_SLOTS) →
    Obeys v (outcome_at k v past)
obeys_at k (verdict.Deliver dport) past slots = go (holder k dport past) refl
  where
    go : (o : Option ℕ) → holder k dport past ≡ o → IsDelivered (option_map_or (λ slot. outcome.Slot slot) o outcome.NoSocket)
    go None is = tt
    go (Some slot) is = slots dport slot is
obeys_at k verdict.Old past slots = refl
obeys_at k verdict.Ping past slots = refl
obeys_at k verdict.Void past slots = refl
obeys_at k verdict.AckOnly past slots = refl
obeys_at k verdict.Map past slots = refl
obeys_at k verdict.OddMap past slots = refl

-- what is owed is pulled, where nothing is in flight
keeps_pull : (hosts h k : ℕ) (past : List Event) → AreTwo hosts h k → Keeps hosts past → length (in_flight h k past) ≡ 0 → Keeps hosts (pull h k past)
keeps_pull hosts h k past two keeps none = go (open_stream (journal h k past)) refl
  where
    apart : h ≢ k
    apart = two.apart

    by_owed : (s : ℕ) → open_stream (journal h k past) ≡ Some s → (o : Option Frame) → owed_frame s (journal h k past) (own_map h past) ≡ o →
        Keeps hosts (option_map_or (λ f. Appended h k (Pull s f) ∷ past) o past)
    by_owed s on None is = keeps
    by_owed s on (Some f) is =
        let joined = keeps.joined h k apart in
        let within = went_within s (journal h k past) (journal k h past) (moved_count h k past) (joined.forth.way s on) in
        keeps_later hosts h k past (Appended h k (Pull s f) ∷ past) two keeps (still_appended h k (Pull s f) past apart)
        (subst AreJoined (sym (appended_here h k (Pull s f) past apart))
        (joined_pulled (ends h k past) s (own_map h past) f joined on (omega (arith, within, none, flying h k s past on)) (length-own_map h past) (IsBytes-own_map h past) is))

    go : (o : Option ℕ) → open_stream (journal h k past) ≡ o → Keeps hosts (option_map_or (λ stream. pull_on h k stream past) o past)
    go None closed = keeps
    go (Some s) on = by_owed s on (owed_frame s (journal h k past) (own_map h past)) refl

-- the last bytes of a frame come, and it is read
module _ (laws : HonestLaws) (hosts limit h k count s : ℕ) (f : Frame) (past : List Event) (small : limit ≤ 2 ^ 63) (two : AreTwo hosts h k) (keeps : Keeps hosts past)
    (on : open_stream (journal h k past) ≡ Some s) (newest : last_pulled_frame (journal h k past) ≡ Some f)
    (bytes : written_bytes s (journal h k past) ≡ read_bytes s (journal k h past) ++ frame_bytes f)
    (ack : f.header.ack ≤ last_passed (journal h k past))
    (all : moved_count h k past + count ≡ length (written_bytes s (journal h k past)))
    (room : length (journal k h past) + 2 ≤ limit) where
  apart : h ≢ k
  apart = two.apart

  back_apart : k ≢ h
  back_apart = λ same. apart (sym same)

  abbrev pub went : List Event
  went = Moved h k count ∷ past

  abbrev behind_read : Outcome → List Event
  behind_read o = Appended k h (Read s f o) ∷ went

  still_read : (o : Outcome) → IsStill h k past (behind_read o)
  still_read o =
      still_then h k past went (behind_read o) (still_moved h k count past)
      (still_turned k h went (behind_read o) (still_appended k h (Read s f o) went back_apart))

  ends_read : (o : Outcome) →
      ends h k (behind_read o) ≡ record (ends h k past) { there = Read s f o ∷ journal k h past; forth = moved_count h k past + count }
  ends_read o =
      appended_there k h (Read s f o) went back_apart
      ∙ ap (λ (e : Ends). record e { there = Read s f o ∷ journal k h past }) (moved_here h k count past apart)

  keeps_plain : (o : Outcome) → Obeys (verdict_of (journal k h past) f.header) o → pong_for o f.header.sport ≡ None → Keeps hosts (behind_read o)
  keeps_plain o obeys settled =
      keeps_later hosts h k past (behind_read o) two keeps (still_read o)
      (subst AreJoined (sym (ends_read o))
      (joined_read laws (ends h k past) s f (keeps.joined h k apart) on newest bytes ack o (moved_count h k past + count) all obeys settled))

  keeps_pinged : Obeys (verdict_of (journal k h past) f.header) outcome.Ping →
      Keeps hosts (Appended k h (Accept NO_SLOT 0 f.header.sport []) ∷ behind_read outcome.Ping)
  keeps_pinged obeys =
      let pong : Entry = Accept NO_SLOT 0 f.header.sport [] in
      let ping = behind_read outcome.Ping in
      keeps_later hosts h k past (Appended k h pong ∷ ping) two keeps
      (still_then h k past ping (Appended k h pong ∷ ping) (still_read outcome.Ping) (still_turned k h ping (Appended k h pong ∷ ping) (still_appended k h pong ping back_apart)))
      (subst AreJoined
      (sym (appended_there k h pong ping back_apart ∙ ap (λ (e : Ends). record e { there = pong ∷ e.there }) (ends_read outcome.Ping)))
      (joined_pinged laws (ends h k past) s f (keeps.joined h k apart) on newest bytes ack (moved_count h k past + count) all obeys
      (omega (arith, room, small, accepted_within (journal k h past)))))

  keeps_answered : (o : Outcome) → Obeys (verdict_of (journal k h past) f.header) o → Keeps hosts (answer k h f o (behind_read o))
  keeps_answered outcome.Ping obeys = keeps_pinged obeys
  keeps_answered (outcome.Slot slot) obeys = keeps_update_mark hosts k f.header.dport slot (behind_read (outcome.Slot slot)) (keeps_plain (outcome.Slot slot) obeys refl)
  keeps_answered outcome.Old obeys = keeps_plain outcome.Old obeys refl
  keeps_answered outcome.NoSocket obeys = keeps_plain outcome.NoSocket obeys refl
  keeps_answered outcome.Void obeys = keeps_plain outcome.Void obeys refl
  keeps_answered outcome.AckOnly obeys = keeps_plain outcome.AckOnly obeys refl
  keeps_answered outcome.Map obeys = keeps_plain outcome.Map obeys refl
  keeps_answered outcome.OddMap obeys = keeps_plain outcome.OddMap obeys refl

  pub keeps_read : Keeps hosts (read k h went)
  keeps_read =
      let on_there : open_stream (journal k h past) ≡ Some s = sym (keeps.joined h k apart).streams ∙ on in
      let is : read k h went ≡ read_on k h s f went =
      λ i. option_map_or (λ stream. option_map_or (λ f. read_on k h stream f went) (newest i) went) (on_there i) went in
      subst (Keeps hosts) (sym is)
      (keeps_answered (outcome_at k (verdict_of (journal k h past) f.header) went) (obeys_at k (verdict_of (journal k h past) f.header) went (keeps.slots k)))

-- some of the bytes in flight go
module _ (laws : HonestLaws) (hosts limit h k count s : ℕ) (past : List Event) (small : limit ≤ 2 ^ 63) (two : AreTwo hosts h k) (keeps : Keeps hosts past)
    (some : 0 < length (in_flight h k past)) (within : count ≤ length (in_flight h k past)) (room : length (journal k h past) + 2 ≤ limit)
    (on : open_stream (journal h k past) ≡ Some s) where
  joined : AreJoined (ends h k past)
  joined = keeps.joined h k two.apart

  abbrev written : List ℕ
  written = written_bytes s (journal h k past)

  going : IsGoing (last_pulled_frame (journal h k past)) written (read_bytes s (journal k h past)) (moved_count h k past) (last_passed (journal h k past))
  going = going_of s (journal h k past) (journal k h past) (moved_count h k past)
      (omega (arith, some, flying h k s past on)) (joined.forth.way s on)

  left : length (in_flight h k (Moved h k count ∷ past)) ≡ length written - (moved_count h k past + count)
  left = flying h k s (Moved h k count ∷ past) on ∙ ap (λ (e : Ends). length written - e.forth) (moved_here h k count past two.apart)

  by_left : (b : Bool) → (length (in_flight h k (Moved h k count ∷ past)) == 0) ≡ b →
      Keeps hosts (cond b (read k h (Moved h k count ∷ past)) (Moved h k count ∷ past))
  by_left true is =
      keeps_read laws hosts limit h k count s going.frame past small two keeps on going.newest going.bytes going.ack
      (omega (arith, left, eqb-true _ 0 is, within, flying h k s past on, going.some_fly)) room
  by_left false is =
      let some_left = eqb-false _ 0 is in
      keeps_later hosts h k past (Moved h k count ∷ past) two keeps (still_moved h k count past)
      (subst AreJoined (sym (moved_here h k count past two.apart)) (joined_moved (ends h k past) s count joined on (omega (arith, some_left, left))))

  keeps_piece_on : Keeps hosts (move_piece h k count past)
  keeps_piece_on = by_left (length (in_flight h k (Moved h k count ∷ past)) == 0) refl

-- a move
module _ (laws : HonestLaws) (hosts limit h k : ℕ) (small : limit ≤ 2 ^ 63) (two : AreTwo hosts h k) where
  keeps_piece : (count : ℕ) (past : List Event) → Keeps hosts past → 0 < length (in_flight h k past) → count ≤ length (in_flight h k past) →
      length (journal k h past) + 2 ≤ limit → Keeps hosts (move_piece h k count past)
  keeps_piece count past keeps some within room = by_stream (open_stream (journal h k past)) refl
    where
      by_stream : (o : Option ℕ) → open_stream (journal h k past) ≡ o → Keeps hosts (move_piece h k count past)
      by_stream None closed = absurd (omega (arith, some, none_flies h k past closed))
      by_stream (Some s) on = keeps_piece_on laws hosts limit h k count s past small two keeps some within room on

  portion_within : (left : Option ℕ) (count : ℕ) → portion left count ≤ count
  portion_within None count = omega arith
  portion_within (Some most) count = omega arith

  keeps_pull_if_idle : (past : List Event) → Keeps hosts past → Holds (Keeps hosts) (pull_if_idle limit h k past)
  keeps_pull_if_idle past keeps = go (length (in_flight h k past) == 0) refl
    where
      go : (idle : Bool) → (length (in_flight h k past) == 0) ≡ idle →
          Holds (Keeps hosts) (cond idle (and_then (if_room limit h k past) (λ (before : List Event). Ok (pull h k before))) (Ok past))
      go true is = holds_room (Keeps hosts) limit h k past (λ (before : List Event). Ok (pull h k before)) (λ room. keeps_pull hosts h k past two keeps (eqb-true _ 0 is))
      go false is = keeps

  keeps_arrive : (left : Option ℕ) (past : List Event) → Keeps hosts past → Holds (Keeps hosts) (arrive limit h k left past)
  keeps_arrive left past keeps = go (length (in_flight h k past) == 0) refl
    where
      go : (idle : Bool) → (length (in_flight h k past) == 0) ≡ idle →
          Holds (Keeps hosts) (cond idle (Ok past)
          (and_then (if_room limit k h past) (λ (before : List Event). Ok (move_piece h k (portion left (length (in_flight h k past))) before))))
      go true is = keeps
      go false is =
          let some = eqb-false _ 0 is in
          holds_room (Keeps hosts) limit k h past (λ (before : List Event). Ok (move_piece h k (portion left (length (in_flight h k past))) before))
          (λ room. keeps_piece (portion left (length (in_flight h k past))) past keeps (omega (arith, some)) (portion_within left (length (in_flight h k past))) room)

  keeps_turned : (left : Option ℕ) (past : List Event) → Keeps hosts past → Holds (Keeps hosts) (and_then (pull_if_idle limit h k past) (arrive limit h k left))
  keeps_turned left past keeps =
      holds_then (Keeps hosts) (Keeps hosts) (pull_if_idle limit h k past) (arrive limit h k left) (keeps_pull_if_idle past keeps)
      (λ loaded there. keeps_arrive left loaded there)

  keeps_turn : (left : Option ℕ) (past : List Event) → Keeps hosts past → Holds (Keeps hosts) (turn limit h k left past)
  keeps_turn None past keeps = keeps_turned None past keeps
  keeps_turn (Some zero) past keeps = keeps
  keeps_turn (Some (suc n)) past keeps = keeps_turned (Some (suc n)) past keeps

  pub keeps_move_up_to : (most : Option ℕ) (past : List Event) → Keeps hosts past → Holds (Keeps hosts) (move_up_to limit h k most past)
  keeps_move_up_to most past keeps =
      holds_again (Keeps hosts) (limit + 1) (λ before. turn limit h k (option_map (λ n. n - moved_in_all before) most) before) past keeps
      (λ before there. keeps_turn (option_map (λ n. n - moved_in_all before) most) before there)
