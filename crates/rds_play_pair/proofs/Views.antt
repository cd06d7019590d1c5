-- What contracts see of an end after a change of it.
use Rattle.std.proofs.Common.{◌≡◌, ℕ, ◌+◌, Bool, true, false, if◌then◌else◌, Option, Some, None, List, [], ◌∷◌, ◌++◌, refl, sym, ◌∙◌, ap}
use Rattle.rds_wire.specs.declared.frame.Frame.{Frame}
use Rattle.rds_wire.specs.Bytes.{frame_bytes}
use Rattle.rds_model.specs.declared.entry.Entry.TheVariants as entry
use Rattle.rds_model.specs.declared.order.Order.{Order}
use Rattle.rds_model.specs.Past.{open_stream, newest_stream}
use Rattle.rds_model.specs.Owed.{owed_frame}
use Rattle.rds_play_pair.specs.declared.step.PairEnd.{PairEnd}
use Rattle.rds_play_pair.specs.declared.step.PairEnd.TheVariants.{First, Second}
use Rattle.rds_play_pair.specs.Sides.{Side, Sides}
use Rattle.rds_play_pair.specs.Sides as pair
use Rattle.rds_play_pair.specs.Changes as was
use Rattle.rds_play_pair.specs.Ends.{JointEnd, at_both, of_end, with_end}
use Rattle.rds_play_pair.specs.Steps.{ordered, opened, opened_from, stream_shut, shut_from, pulled, pulled_from, with_pull, passed, passed_from}
use Rattle.rds_play_pair.specs.Inside.{end, ends}

-- a change of one end
pub seen_end : (who : PairEnd) (made : Side → Side) (seen : JointEnd → JointEnd) (p : Sides) →
    end (made (pair.of_end who p)) ≡ seen (of_end who (ends p)) → ends (pair.with_end who made p) ≡ with_end who seen (ends p)
seen_end First made seen p is = λ i. record { first = is i; second = end p.second }
seen_end Second made seen p is = λ i. record { first = end p.first; second = is i }

pub seen_ordered : (o : Order) (s : Side) → end (was.ordered o s) ≡ ordered o (end s)
seen_ordered o s = by_test (was.is_allowed s.slots o)
  where
    by_test : (allowed : Bool) →
        end (if allowed then record s { past = was.entries_of o ++ s.past } else s)
        ≡ (if allowed then record (end s) { past = was.entries_of o ++ s.past } else end s)
    by_test true = refl
    by_test false = refl

pub seen_passed : (slot : Option ℕ) (s : Side) → end (was.passed slot s) ≡ passed slot (end s)
seen_passed slot s = by_both (open_stream s.past) s.waiting
  where
    by_both : (o : Option ℕ) (w : Option Frame) → end (was.passed_on o w slot s) ≡ passed_from o w slot (end s)
    by_both None w = refl
    by_both (Some j) None = refl
    by_both (Some j) (Some f) = refl

-- a pull where nothing is on its way
pub seen_pulled : (map : List ℕ) (there : Option Frame) (s : Side) → s.flying ≡ [] → there ≡ None →
    end (was.pulled map s) ≡ pulled map there (end s)
seen_pulled map there s idle none = by_stream (open_stream s.past) s.flying there idle none
  where
    by_owed : (j : ℕ) (owed : Option Frame) → end (was.with_pull j owed s) ≡ with_pull j owed (end s)
    by_owed j None = refl
    by_owed j (Some f) =
        ap (λ (bytes : List ℕ). record (end s) { past = entry.Pull j f ∷ s.past; flying = bytes }) (ap (λ (front : List ℕ). front ++ frame_bytes f) idle)

    by_stream : (o : Option ℕ) (flying : List ℕ) (w : Option Frame) → flying ≡ [] → w ≡ None →
        end (was.with_owed_on o map s) ≡ pulled_from o flying w map (end s)
    by_stream None flying w flying_is w_is = refl
    by_stream (Some j) [] None flying_is w_is = by_owed j (owed_frame j s.past map)
    by_stream (Some j) [] (Some f) flying_is w_is = cc
    by_stream (Some j) (byte ∷ bytes) w flying_is w_is = cc

-- no pull where something is on its way
pub unpulled_flying : (map : List ℕ) (there : Option Frame) (e : JointEnd) → (e.flying ≡ [] → ⊥) → pulled map there e ≡ e
unpulled_flying map there e some = by_stream (open_stream e.past) e.flying some
  where
    by_stream : (o : Option ℕ) (flying : List ℕ) → (flying ≡ [] → ⊥) → pulled_from o flying there map e ≡ e
    by_stream None flying some = refl
    by_stream (Some j) [] some = absurd (some refl)
    by_stream (Some j) (byte ∷ bytes) some = refl

pub unpulled_waiting : (map : List ℕ) (there : Option Frame) (e : JointEnd) → (there ≡ None → ⊥) → pulled map there e ≡ e
unpulled_waiting map there e some = by_stream (open_stream e.past) e.flying there some
  where
    by_stream : (o : Option ℕ) (flying : List ℕ) (w : Option Frame) → (w ≡ None → ⊥) → pulled_from o flying w map e ≡ e
    by_stream None flying w some = refl
    by_stream (Some j) [] None some = absurd (some refl)
    by_stream (Some j) [] (Some f) some = refl
    by_stream (Some j) (byte ∷ bytes) w some = refl

-- an end was shut, where nothing is in flight unless a stream is open
pub seen_shut : (s : Side) → (open_stream s.past ≡ None → s.flying ≡ []) →
    end (was.without_flight (was.shut_one s)) ≡ stream_shut (end s)
seen_shut s no_flight = by_stream (open_stream s.past) refl
  where
    by_stream : (o : Option ℕ) → open_stream s.past ≡ o → end (was.without_flight (was.shut_from o s)) ≡ shut_from o (end s)
    by_stream None closed = ap (λ (bytes : List ℕ). record (end s) { flying = bytes }) (sym (no_flight closed))
    by_stream (Some j) on = refl

-- a stream was opened, where none was
pub seen_opened : (n : ℕ) (s : Side) → open_stream s.past ≡ None → s.flying ≡ [] → n ≡ newest_stream s.past + 1 →
    end (was.opened n s) ≡ opened (end s)
seen_opened n s closed idle is =
    (λ i. record (end s) { past = entry.Open (is i) ∷ s.past; flying = sym idle i })
    ∙ ap (λ (o : Option ℕ). opened_from o (end s)) (sym closed)

-- the next stream was opened at both ends, where none was open at either
pub seen_opened_at_both : (p : Sides) → open_stream p.first.past ≡ open_stream p.second.past →
    (open_stream p.first.past ≡ None → p.first.flying ≡ []) → (open_stream p.second.past ≡ None → p.second.flying ≡ []) →
    newest_stream p.first.past ≡ newest_stream p.second.past → ends (was.opened_at_both p) ≡ at_both opened (ends p)
seen_opened_at_both p streams idle_a idle_b newest = by_streams (open_stream p.first.past) (open_stream p.second.past) refl refl
  where
    still : (e : Side) (s : ℕ) → open_stream e.past ≡ Some s → end e ≡ opened (end e)
    still e s on = ap (λ (o : Option ℕ). opened_from o (end e)) (sym on)

    by_streams : (o q : Option ℕ) → open_stream p.first.past ≡ o → open_stream p.second.past ≡ q →
        ends (was.opened_from o q p) ≡ at_both opened (ends p)
    by_streams None None closed_a closed_b =
        let first = seen_opened (newest_stream p.first.past + 1) p.first closed_a (idle_a closed_a) refl in
        let second =
        seen_opened (newest_stream p.first.past + 1) p.second closed_b (idle_b closed_b) (ap (λ (n : ℕ). n + 1) newest) in
        λ i. record { first = first i; second = second i }
    by_streams None (Some s) closed_a on_b = let never : None ≡ Some s = sym closed_a ∙ streams ∙ on_b in cc
    by_streams (Some s) None on_a closed_b = let never : None ≡ Some s = sym closed_b ∙ sym streams ∙ on_a in cc
    by_streams (Some s) (Some t) on_a on_b =
        let first = still p.first s on_a in
        let second = still p.second t on_b in
        λ i. record { first = first i; second = second i }

-- both ends were shut
pub seen_cut : (p : Sides) → (open_stream p.first.past ≡ None → p.first.flying ≡ []) → (open_stream p.second.past ≡ None → p.second.flying ≡ []) →
    ends (was.cut_pair p) ≡ at_both stream_shut (ends p)
seen_cut p idle_a idle_b =
    let first = seen_shut p.first idle_a in
    let second = seen_shut p.second idle_b in
    λ i. record { first = first i; second = second i }

-- the same of the end that a call names
at_end : (who : PairEnd) (made : Side → Side) (seen : JointEnd → JointEnd) (p : Sides) →
    ((s : Side) → end (made s) ≡ seen (end s)) → end (made (pair.of_end who p)) ≡ seen (of_end who (ends p))
at_end First made seen p is = is p.first
at_end Second made seen p is = is p.second

pub seen_ordered_at : (who : PairEnd) (o : Order) (p : Sides) → end (was.ordered o (pair.of_end who p)) ≡ ordered o (of_end who (ends p))
seen_ordered_at who o p = at_end who (was.ordered o) (ordered o) p (seen_ordered o)

pub seen_passed_at : (who : PairEnd) (slot : Option ℕ) (p : Sides) → end (was.passed slot (pair.of_end who p)) ≡ passed slot (of_end who (ends p))
seen_passed_at who slot p = at_end who (was.passed slot) (passed slot) p (seen_passed slot)
