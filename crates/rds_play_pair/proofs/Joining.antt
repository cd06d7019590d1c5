-- Each step keeps what a pair keeps.
use Rattle.std.proofs.Common.{◌≡◌, ℕ, ◌+◌, ◌<◌, ◌≤◌, Bool, true, false, if◌then◌else◌, Option, Some, None, List, [], ◌∷◌, ◌++◌, length, refl, sym, ◌∙◌, ap, subst, arith}
use Rattle.rds_wire.specs.declared.frame.Frame.{Frame}
use Rattle.rds_wire.specs.Bytes.{frame_bytes}
use Rattle.rds_model.specs.declared.entry.Entry.TheVariants as entry
use Rattle.rds_model.specs.declared.entry.Outcome.{Outcome}
use Rattle.rds_model.specs.declared.order.Order.{Order}
use Rattle.rds_model.specs.declared.order.Order.TheVariants as order
use Rattle.rds_model.specs.Past.{open_stream, newest_stream}
use Rattle.rds_model.specs.Streams.{written_bytes, read_bytes}
use Rattle.rds_model.specs.Owed.{owed_frame}
use Rattle.rds_model.specs.Reading.{verdict_of}
use Rattle.rds_model.specs.Legal.{IsWhole, pong_for}
use Rattle.rds_model.specs.Honest.{IsHonest}
use Rattle.rds_conn.specs.Passing.{outcome_of}
use Rattle.rds_play_pair.specs.Sides.{Side, unpassed_bytes}
use Rattle.rds_play_pair.specs.Changes.{entries_of, found_for, is_allowed, without_flight, Moves, opened, ordered, passed, passed_on, pong_entries, pulled, with_pull, with_owed_on, shut_one, shut_from}
use Rattle.rds_play_pair.specs.Joined.{IsJoined, IsOrderly}
use Rattle.rds_play_pair.proofs.Flowing.{flows_ended, flows_moved, flows_opened, flows_passed, flows_pulled, flows_still}

-- seen from the other end
pub swapped : (n : ℕ) (a b : Side) → IsJoined n a b → IsJoined n b a
swapped n a b joined = record { first = joined.second; second = joined.first; forth = joined.back; back = joined.forth }

pub honest_of : (n : ℕ) (a b : Side) → IsJoined n a b → IsHonest a.past b.past
honest_of n a b joined =
    let forth = joined.forth in
    let back = joined.back in
    record { forth = forth.prefixes; back = back.prefixes }

-- one end changed, but what it wrote, got and took is the same, on the same streams
record IsStill (old new : Side) : Type 0 where
  wrote_is : (s : ℕ) → written_bytes s new.past ≡ written_bytes s old.past
  got_is : (s : ℕ) → read_bytes s new.past ≡ read_bytes s old.past
  stream_is : open_stream new.past ≡ open_stream old.past
  newest_is : newest_stream new.past ≡ newest_stream old.past
  longer : length old.past ≤ length new.past
  taken_is : unpassed_bytes new ≡ unpassed_bytes old
  flying_is : new.flying ≡ old.flying

joined_still : (n : ℕ) (old new other : Side) → IsJoined n old other → IsStill old new → IsWhole new.past → IsJoined n new other
joined_still n old new other joined still whole =
    let first = joined.first in
    record {
      first = record { whole = whole; newest = still.newest_is ∙ first.newest; counted = omega (arith, first.counted, still.longer) };
      second = joined.second;
      forth = flows_still old new other other joined.forth still.wrote_is (λ s. refl) (λ s on. on)
          (λ s on. ap (λ (rest : List ℕ). unpassed_bytes other ++ rest) still.flying_is);
      back = flows_still other other old new joined.back (λ s. refl) still.got_is (λ s on. sym still.stream_is ∙ on)
          (λ s on. ap (λ (front : List ℕ). front ++ other.flying) still.taken_is);
    }

-- an order was given
still_ordered : (o : Order) (e : Side) → IsStill e (record e { past = entries_of o ++ e.past })
still_ordered (order.Send slot sport dport payload) e = record {
  wrote_is = λ s. refl;
  got_is = λ s. refl;
  stream_is = refl;
  newest_is = refl;
  longer = omega arith;
  taken_is = refl;
  flying_is = refl;
}
still_ordered (order.Cancel slot dport) e = record {
  wrote_is = λ s. refl;
  got_is = λ s. refl;
  stream_is = refl;
  newest_is = refl;
  longer = omega arith;
  taken_is = refl;
  flying_is = refl;
}
still_ordered (order.CloseSocket slot) e = record {
  wrote_is = λ s. refl;
  got_is = λ s. refl;
  stream_is = refl;
  newest_is = refl;
  longer = omega arith;
  taken_is = refl;
  flying_is = refl;
}
still_ordered order.Cut e = record {
  wrote_is = λ s. refl;
  got_is = λ s. refl;
  stream_is = refl;
  newest_is = refl;
  longer = omega arith;
  taken_is = refl;
  flying_is = refl;
}

pub joined_ordered : (o : Order) (n : ℕ) (a b : Side) → IsJoined n a b → IsWhole (ordered o a).past → IsJoined n (ordered o a) b
joined_ordered o n a b joined whole = by_test (is_allowed a.slots o) whole
  where
    by_test : (allowed : Bool) → IsWhole (if allowed then record a { past = entries_of o ++ a.past } else a).past →
        IsJoined n (if allowed then record a { past = entries_of o ++ a.past } else a) b
    by_test false whole = joined
    by_test true whole = joined_still n a (record a { past = entries_of o ++ a.past }) b joined (still_ordered o a) whole

-- what is owed was pulled
pub joined_pulled : (map : List ℕ) (n : ℕ) (a b : Side) → IsJoined n a b → IsWhole (pulled map a).past → IsJoined n (pulled map a) b
joined_pulled map n a b joined whole = by_stream (open_stream a.past) refl whole
  where
    by_owed : (s : ℕ) (o : Option Frame) → open_stream a.past ≡ Some s → IsWhole (with_pull s o a).past → IsJoined n (with_pull s o a) b
    by_owed s None on whole = joined
    by_owed s (Some f) on whole =
        let first = joined.first in
        let second = joined.second in
        record {
          first = record { whole = whole; newest = first.newest; counted = omega (arith, first.counted) };
          second = second;
          forth = flows_pulled a b s f joined.forth on (first.newest ∙ sym second.newest);
          back = flows_still b b a (record a { past = entry.Pull s f ∷ a.past; flying = a.flying ++ frame_bytes f }) joined.back
              (λ j. refl) (λ j. refl) (λ j here. here) (λ j here. refl);
        }

    by_stream : (o : Option ℕ) → open_stream a.past ≡ o → IsWhole (with_owed_on o map a).past → IsJoined n (with_owed_on o map a) b
    by_stream None on whole = joined
    by_stream (Some s) on whole = by_owed s (owed_frame s a.past map) on whole

-- the frame that waits was passed
joined_read : (n : ℕ) (a b : Side) (s : ℕ) (f : Frame) (came : Outcome) (o : Option ℕ) → IsJoined n a b →
    open_stream a.past ≡ Some s → a.waiting ≡ Some f → IsWhole (pong_entries o ++ entry.Read s f came ∷ a.past) →
    IsJoined n (record a { past = pong_entries o ++ entry.Read s f came ∷ a.past; waiting = None }) b
joined_read n a b s f came None joined on waits whole =
    let first = joined.first in
    let was = first.whole in
    record {
      first = record { whole = whole; newest = first.newest; counted = omega (arith, first.counted) };
      second = joined.second;
      forth = flows_still a (record a { past = entry.Read s f came ∷ a.past; waiting = None }) b b joined.forth
          (λ j. refl) (λ j. refl) (λ j here. here) (λ j here. refl);
      back = flows_passed b a s f came None joined.back was.legal on waits;
    }
joined_read n a b s f came (Some port) joined on waits whole =
    let first = joined.first in
    let was = first.whole in
    record {
      first = record { whole = whole; newest = first.newest; counted = omega (arith, first.counted) };
      second = joined.second;
      forth = flows_still a (record a { past = pong_entries (Some port) ++ entry.Read s f came ∷ a.past; waiting = None }) b b joined.forth
          (λ j. refl) (λ j. refl) (λ j here. here) (λ j here. refl);
      back = flows_passed b a s f came (Some port) joined.back was.legal on waits;
    }

pub joined_passed : (slot : Option ℕ) (n : ℕ) (a b : Side) → IsJoined n a b → IsWhole (passed slot a).past → IsJoined n (passed slot a) b
joined_passed slot n a b joined whole = by_both (open_stream a.past) a.waiting refl refl whole
  where
    by_both : (o : Option ℕ) (w : Option Frame) → open_stream a.past ≡ o → a.waiting ≡ w →
        IsWhole (passed_on o w slot a).past → IsJoined n (passed_on o w slot a) b
    by_both None w on waits whole = joined
    by_both (Some s) None on waits whole = joined
    by_both (Some s) (Some f) on waits whole =
        let verdict = verdict_of a.past f.header in
        let came = outcome_of verdict (found_for a.slots slot verdict) in
        joined_read n a b s f came (pong_for came f.header.sport) joined on waits whole

-- the next stream was opened
orderly_opened : (n : ℕ) (e : Side) → IsOrderly n e → IsWhole (opened (n + 1) e).past → IsOrderly (n + 1) (opened (n + 1) e)
orderly_opened n e orderly whole = record { whole = whole; newest = refl; counted = omega (arith, orderly.counted) }

-- nothing of a stream was taken and not passed
pub record IsIdle (e : Side) : Type 0 where
  pub waiting : e.waiting ≡ None
  pub rest : e.rest ≡ []

pub joined_opened : (n : ℕ) (a b : Side) → IsJoined n a b → IsIdle a → IsIdle b →
    IsWhole (opened (n + 1) a).past → IsWhole (opened (n + 1) b).past → IsJoined (n + 1) (opened (n + 1) a) (opened (n + 1) b)
joined_opened n a b joined idle_a idle_b whole_a whole_b =
    let first = joined.first in
    let second = joined.second in
    let was_a = first.whole in
    let was_b = second.whole in
    let newer_a : newest_stream a.past < n + 1 = omega (arith, first.newest) in
    let newer_b : newest_stream b.past < n + 1 = omega (arith, second.newest) in
    record {
      first = orderly_opened n a first whole_a;
      second = orderly_opened n b second whole_b;
      forth = flows_opened a b (n + 1) joined.forth was_a.legal was_b.legal newer_a newer_b idle_b.waiting idle_b.rest;
      back = flows_opened b a (n + 1) joined.back was_b.legal was_a.legal newer_b newer_a idle_a.waiting idle_a.rest;
    }

-- the end was shut: no stream is open
record IsEnded (old new : Side) : Type 0 where
  wrote_is : (s : ℕ) → written_bytes s new.past ≡ written_bytes s old.past
  got_is : (s : ℕ) → read_bytes s new.past ≡ read_bytes s old.past
  newest_is : newest_stream new.past ≡ newest_stream old.past
  longer : length old.past ≤ length new.past
  closed : (s : ℕ) → open_stream new.past ≡ Some s → ⊥
  flying_is : new.flying ≡ old.flying

ended_shut : (e : Side) → IsEnded e (shut_one e)
ended_shut e = by_stream (open_stream e.past) refl
  where
    by_stream : (o : Option ℕ) → open_stream e.past ≡ o → IsEnded e (shut_from o e)
    by_stream None closed = record {
      wrote_is = λ s. refl;
      got_is = λ s. refl;
      newest_is = refl;
      longer = omega arith;
      closed = λ s on. let never : None ≡ Some s = sym closed ∙ on in cc;
      flying_is = refl;
    }
    by_stream (Some s) on = record {
      wrote_is = λ j. refl;
      got_is = λ j. refl;
      newest_is = refl;
      longer = omega arith;
      closed = λ j is. cc;
      flying_is = refl;
    }

orderly_shut : (n : ℕ) (e : Side) → IsOrderly n e → IsWhole (shut_one e).past → IsOrderly n (shut_one e)
orderly_shut n e orderly whole =
    let ended = ended_shut e in
    record { whole = whole; newest = ended.newest_is ∙ orderly.newest; counted = omega (arith, orderly.counted, ended.longer) }

orderly_lost : (n : ℕ) (e : Side) → IsOrderly n e → IsOrderly n (without_flight e)
orderly_lost n e orderly = record { whole = orderly.whole; newest = orderly.newest; counted = orderly.counted }

-- one end was shut
pub joined_shut : (n : ℕ) (a b : Side) → IsJoined n a b → IsWhole (shut_one a).past → IsJoined n (shut_one a) (without_flight b)
joined_shut n a b joined whole =
    let ended = ended_shut a in
    record {
      first = orderly_shut n a joined.first whole;
      second = orderly_lost n b joined.second;
      forth = flows_still a (shut_one a) b (without_flight b) joined.forth ended.wrote_is (λ s. refl) (λ s on. on)
          (λ s on. ap (λ (rest : List ℕ). unpassed_bytes b ++ rest) ended.flying_is);
      back = flows_ended b (without_flight b) a (shut_one a) joined.back (λ s. refl) ended.got_is ended.closed;
    }

-- both ends were shut
pub joined_cut : (n : ℕ) (a b : Side) → IsJoined n a b → IsWhole (shut_one a).past → IsWhole (shut_one b).past →
    IsJoined n (without_flight (shut_one a)) (without_flight (shut_one b))
joined_cut n a b joined whole_a whole_b =
    let ended_a = ended_shut a in
    let ended_b = ended_shut b in
    record {
      first = orderly_lost n (shut_one a) (orderly_shut n a joined.first whole_a);
      second = orderly_lost n (shut_one b) (orderly_shut n b joined.second whole_b);
      forth = flows_ended a (without_flight (shut_one a)) b (without_flight (shut_one b)) joined.forth ended_a.wrote_is ended_b.got_is ended_b.closed;
      back = flows_ended b (without_flight (shut_one b)) a (without_flight (shut_one a)) joined.back ended_b.wrote_is ended_a.got_is ended_a.closed;
    }

-- bytes moved
pub joined_moved : (n bytes used : ℕ) (a a_new b b_new : Side) → IsJoined n a b → Moves bytes used a a_new b b_new → IsJoined n a_new b_new
joined_moved n bytes used a a_new b b_new joined moves =
    let first = joined.first in
    let second = joined.second in
    record {
      first = subst (λ (e : Side). IsOrderly n e) (sym moves.gone) (record { whole = first.whole; newest = first.newest; counted = first.counted });
      second = subst (λ (e : Side). IsOrderly n e) (sym moves.rest_same) (record { whole = second.whole; newest = second.newest; counted = second.counted });
      forth = flows_moved bytes used a a_new b b_new joined.forth moves;
      back = flows_still b b_new a a_new joined.back
          (λ s. ap (λ (e : Side). written_bytes s e.past) moves.rest_same)
          (λ s. ap (λ (e : Side). read_bytes s e.past) moves.gone)
          (λ s on. sym (ap (λ (e : Side). open_stream e.past) moves.gone) ∙ on)
          (λ s on. λ i. (unpassed_bytes (moves.gone i)) ++ (moves.rest_same i).flying);
    }
