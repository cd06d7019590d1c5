-- Each step but the feeding keeps what a joint keeps.
use Rattle.std.proofs.Common.{◌≡◌, inl, inr, ℕ, ◌+◌, ◌<◌, Bool, true, false, if◌then◌else◌, Option, Some, None, is_some, List, [], ◌∷◌, ◌++◌, length, refl, sym, ◌∙◌, ap, subst}
use Rattle.std.proofs.lemmas.List.{append-nil}
use Rattle.rds_wire.specs.declared.frame.Frame.{Frame}
use Rattle.rds_wire.specs.Bytes.{frame_bytes}
use Rattle.rds_frame.specs.Holding.{waiting_bytes}
use Rattle.rds_model.specs.declared.entry.Entry.TheVariants as entry
use Rattle.rds_model.specs.declared.entry.Outcome.{Outcome}
use Rattle.rds_model.specs.declared.order.Order.{Order}
use Rattle.rds_model.specs.declared.order.Order.TheVariants as order
use Rattle.rds_model.specs.Past.{open_stream, newest_stream}
use Rattle.rds_model.specs.Streams.{read_bytes}
use Rattle.rds_model.specs.Owed.{owed_frame}
use Rattle.rds_model.specs.Reading.{verdict_of}
use Rattle.rds_model.specs.Legal.{pong_for}
use Rattle.rds_conn.specs.Passing.{outcome_of}
use Rattle.rds_play_pair.specs.declared.step.PairEnd.{PairEnd}
use Rattle.rds_play_pair.specs.declared.step.PairEnd.TheVariants.{First, Second}
use Rattle.rds_play_pair.specs.Sides.{Side, Sides, TakesFrameByFrame, of_end, unpassed_bytes, with_end}
use Rattle.rds_play_pair.specs.Joined.{Flows}
use Rattle.rds_play_pair.specs.Changes.{entries_of, found_for, is_allowed, opened, ordered, passed, passed_on, opened_at_both, opened_from, pong_entries, pulled, shut_from, shut_one, with_owed_on, with_pull, without_flight}
use Rattle.rds_model.specs.Sums.{last_pulled_frame}
use Rattle.rds_play_pair.specs.OnTheWay.{HasAtMostOne, ReadsAll}
use Rattle.rds_play_pair.specs.Inside.{end, IsJoint}
use Rattle.rds_play_pair.proofs.OnTheWay.{frame_has_bytes, nothing_kept, on_its_way_still, passed_on_its_way}

-- seen from the other end
pub swapped : (a b : Side) → IsJoint a b → IsJoint b a
swapped a b joint = record { streams = sym joint.streams; forth = joint.back; back = joint.forth }

-- the end that an end faces
abbrev pub across : PairEnd → Sides → Side
across First p = p.second
across Second p = p.first

-- a pair whose one end changed
abbrev pub IsJointPair : Sides → Type 0
IsJointPair p = IsJoint p.first p.second

pub kept_end : (who : PairEnd) (made : Side → Side) (p : Sides) →
    (IsJoint (of_end who p) (across who p) → IsJoint (made (of_end who p)) (across who p)) → IsJointPair p → IsJointPair (with_end who made p)
kept_end First made p kept joint = kept joint
kept_end Second made p kept joint = swapped (made p.second) p.first (kept (swapped p.first p.second joint))

-- an entry of an order tells of no pull, and of no stream
newest_ordered : (o : Order) (s : Side) → last_pulled_frame (entries_of o ++ s.past) ≡ last_pulled_frame s.past
newest_ordered (order.Send slot sport dport payload) s = refl
newest_ordered (order.Cancel slot dport) s = refl
newest_ordered (order.CloseSocket slot) s = refl
newest_ordered order.Cut s = refl

stream_ordered : (o : Order) (s : Side) → open_stream (entries_of o ++ s.past) ≡ open_stream s.past
stream_ordered (order.Send slot sport dport payload) s = refl
stream_ordered (order.Cancel slot dport) s = refl
stream_ordered (order.CloseSocket slot) s = refl
stream_ordered order.Cut s = refl

pub kept_ordered : (o : Order) (a b : Side) → IsJoint a b → IsJoint (ordered o a) b
kept_ordered o a b joint = by_test (is_allowed a.slots o)
  where
    by_test : (allowed : Bool) → IsJoint (if allowed then record a { past = entries_of o ++ a.past } else a) b
    by_test false = joint
    by_test true = record {
      streams = stream_ordered o a ∙ joint.streams;
      forth = on_its_way_still b.rest (end a) (end (record a { past = entries_of o ++ a.past })) b.waiting
          (newest_ordered o a) (stream_ordered o a) refl joint.forth;
      back = joint.back;
    }

-- what is owed was pulled, where nothing was on its way
pub kept_pulled : (map : List ℕ) (a b : Side) → a.flying ≡ [] → b.waiting ≡ None → IsJoint a b → IsJoint (pulled map a) b
kept_pulled map a b idle none joint = by_stream (open_stream a.past) refl
  where
    rest_is : b.rest ≡ []
    rest_is = nothing_kept b.rest (end a) b.waiting joint.forth idle

    by_owed : (s : ℕ) (o : Option Frame) → open_stream a.past ≡ Some s → IsJoint (with_pull s o a) b
    by_owed s None on = joint
    by_owed s (Some f) on =
        let flying : a.flying ++ frame_bytes f ≡ frame_bytes f = ap (λ (front : List ℕ). front ++ frame_bytes f) idle in
        record {
          streams = joint.streams;
          forth = inr (inl (record {
            frame = f;
            newest = refl;
            bytes = ap (λ (front : List ℕ). front ++ (a.flying ++ frame_bytes f)) rest_is ∙ flying;
            some_fly = subst (λ (bytes : List ℕ). 0 < length bytes) (sym flying) (frame_has_bytes f);
            none_waits = none;
            on = ap is_some on;
          }));
          back = joint.back;
        }

    by_stream : (o : Option ℕ) → open_stream a.past ≡ o → IsJoint (with_owed_on o map a) b
    by_stream None on = joint
    by_stream (Some s) on = by_owed s (owed_frame s a.past map) on

-- the frame that waits was passed
kept_read : (a b : Side) (s : ℕ) (f : Frame) (came : Outcome) (o : Option ℕ) → a.waiting ≡ Some f → IsJoint a b →
    IsJoint (record a { past = pong_entries o ++ entry.Read s f came ∷ a.past; waiting = None }) b
kept_read a b s f came None waits joint = record {
  streams = joint.streams;
  forth = on_its_way_still b.rest (end a) (end (record a { past = entry.Read s f came ∷ a.past; waiting = None })) b.waiting
      refl refl refl joint.forth;
  back = passed_on_its_way a.rest (end b) f (subst (λ (w : Option Frame). HasAtMostOne a.rest (end b) w) waits joint.back);
}
kept_read a b s f came (Some port) waits joint = record {
  streams = joint.streams;
  forth = on_its_way_still b.rest (end a) (end (record a { past = pong_entries (Some port) ++ entry.Read s f came ∷ a.past; waiting = None })) b.waiting
      refl refl refl joint.forth;
  back = passed_on_its_way a.rest (end b) f (subst (λ (w : Option Frame). HasAtMostOne a.rest (end b) w) waits joint.back);
}

pub kept_passed : (slot : Option ℕ) (a b : Side) → IsJoint a b → IsJoint (passed slot a) b
kept_passed slot a b joint = by_both (open_stream a.past) a.waiting refl
  where
    by_both : (o : Option ℕ) (w : Option Frame) → a.waiting ≡ w → IsJoint (passed_on o w slot a) b
    by_both None w waits = joint
    by_both (Some s) None waits = joint
    by_both (Some s) (Some f) waits =
        let verdict = verdict_of a.past f.header in
        let came = outcome_of verdict (found_for a.slots slot verdict) in
        kept_read a b s f came (pong_for came f.header.sport) waits joint

-- nothing is on its way, and the same stream is open, or none
joint_idle : (a b : Side) → open_stream a.past ≡ open_stream b.past → a.flying ≡ [] → b.flying ≡ [] →
    a.waiting ≡ None → b.waiting ≡ None → a.rest ≡ [] → b.rest ≡ [] → IsJoint a b
joint_idle a b streams flying_a flying_b waits_a waits_b rest_a rest_b = record {
  streams = streams;
  forth = inl (record { none_flies = flying_a; none_waits = waits_b; none_kept = rest_b });
  back = inl (record { none_flies = flying_b; none_waits = waits_a; none_kept = rest_a });
}

-- an end that was shut
record IsOver (e : Side) : Type 0 where
  closed : open_stream e.past ≡ None
  none_waits : e.waiting ≡ None
  none_kept : e.rest ≡ []

over_shut : (e : Side) → TakesFrameByFrame e → IsOver (shut_one e)
over_shut e reads = by_stream (open_stream e.past) refl
  where
    by_stream : (o : Option ℕ) → open_stream e.past ≡ o → IsOver (shut_from o e)
    by_stream None closed = let idle = reads.idle closed in record { closed = closed; none_waits = idle.0; none_kept = idle.1 }
    by_stream (Some s) on = record { closed = refl; none_waits = refl; none_kept = refl }

pub joint_cut : (a b : Side) → TakesFrameByFrame a → TakesFrameByFrame b → IsJoint (without_flight (shut_one a)) (without_flight (shut_one b))
joint_cut a b reads_a reads_b =
    let over_a = over_shut a reads_a in
    let over_b = over_shut b reads_b in
    joint_idle (without_flight (shut_one a)) (without_flight (shut_one b)) (over_a.closed ∙ sym over_b.closed) refl refl
    over_a.none_waits over_b.none_waits over_a.none_kept over_b.none_kept

pub joint_opened : (n : ℕ) (a b : Side) → open_stream a.past ≡ None → open_stream b.past ≡ None →
    TakesFrameByFrame a → TakesFrameByFrame b → IsJoint (opened n a) (opened n b)
joint_opened n a b closed_a closed_b reads_a reads_b =
    let idle_a = reads_a.idle closed_a in
    let idle_b = reads_b.idle closed_b in
    joint_idle (opened n a) (opened n b) refl refl refl idle_a.0 idle_b.0 idle_a.1 idle_b.1

-- the next stream was opened, if none was open
pub joint_opened_at_both : (p : Sides) → IsJointPair p → TakesFrameByFrame p.first → TakesFrameByFrame p.second → IsJointPair (opened_at_both p)
joint_opened_at_both p joint reads_a reads_b = by_streams (open_stream p.first.past) (open_stream p.second.past) refl refl
  where
    by_streams : (o q : Option ℕ) → open_stream p.first.past ≡ o → open_stream p.second.past ≡ q → IsJointPair (opened_from o q p)
    by_streams None None closed_a closed_b =
        joint_opened (newest_stream p.first.past + 1) p.first p.second closed_a closed_b reads_a reads_b
    by_streams None (Some s) closed_a on_b = joint
    by_streams (Some s) q on_a is_b = joint

-- where nothing is on its way, all was read
pub reads_all : (a b : Side) → IsJoint a b → Flows a b → ReadsAll (end a) (end b)
reads_all a b joint flows = record {
  all = λ none waits s on.
      let kept = nothing_kept b.rest (end a) b.waiting joint.forth none in
      let nothing : unpassed_bytes b ++ a.flying ≡ [] = λ i. (waiting_bytes (waits i) ++ kept i) ++ none i in
      sym (flows.in_flight s on ∙ ap (λ (more : List ℕ). read_bytes s b.past ++ more) nothing ∙ append-nil (read_bytes s b.past));
}
