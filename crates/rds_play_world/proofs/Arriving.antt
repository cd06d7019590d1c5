-- A world after bytes in flight went.
use Rattle.std.proofs.Common.{◌≡◌, ◌≢◌, inl, inr, ℕ, ◌-◌, ◌<◌, ◌≤◌, ◌==◌, ◌&&◌, Bool, true, false, cond, Option, Some, None, Result, Ok, Err, List, [], ◌∷◌, length, drop, refl, sym, ◌∙◌, ap, subst, arith}
use Rattle.std.specs.Prelude.{IfOk, IsSome, if◌then◌else◌, min}
use Rattle.std.specs.Option.{option_map_or}
use Rattle.std.proofs.lemmas.Bool.{cond-true, cond-false, eq-eqb, ne_eqb}
use Rattle.std.proofs.lemmas.List.{drop-drop, length-drop}
use Rattle.rds_wire.specs.declared.frame.Frame.{Frame}
use Rattle.rds_model.specs.declared.entry.Entry.{Entry}
use Rattle.rds_model.specs.Past.{open_stream}
use Rattle.rds_model.specs.Streams.{written_bytes}
use Rattle.rds_model.specs.Sums.{last_pulled_frame}
use Rattle.rds_play_pair.specs.Ends.{JointEnd}
use Rattle.rds_play_pair.specs.OnTheWay.{HasAtMostOne}
use Rattle.rds_play_pair.specs.Steps.{came, came_from, went}
use Rattle.rds_play_pair.specs.declared.error.PairError.{PairError}
use Rattle.rds_play_mesh.specs.Ends.{ChangesPair, MeshView, end_at}
use Rattle.rds_play_mesh.specs.Known.{KnownOfEnds}
use Rattle.rds_history.specs.Events.{Event, Moved}
use Rattle.rds_history.specs.Journals.{journal, moved_count, in_flight, written_to_open}
use Rattle.rds_history.specs.Move.{move_piece}
use Rattle.rds_history.specs.PullAndRead.{read}
use Rattle.rds_play_world.specs.declared.stop.Stop.{Stop}
use Rattle.rds_play_world.specs.Happening.{BytesCame}
use Rattle.rds_play_world.specs.Readiness.{or_memory}
use Rattle.rds_play_world.specs.Telling.{State, Tells, TellsEnd, TellsWaiting, none_waits, one_waits}
use Rattle.rds_play_world.proofs.Journaling.{moved_elsewhere, moved_here}
use Rattle.rds_play_world.proofs.Ends.{IsStill, end_still}
use Rattle.rds_play_world.proofs.Changing.{hosts_untouched, tells_changed, tells_same_waiting, waits_back, waits_elsewhere, waits_here}

-- the frame that is going, where some of it flies
record IsUnderWay (writer : JointEnd) : Type 0 where
  frame : Frame
  stream : ℕ
  newest : last_pulled_frame writer.past ≡ Some frame
  on : open_stream writer.past ≡ Some stream

under_way : (kept : List ℕ) (writer : JointEnd) (waiting : Option Frame) → 0 < length writer.flying → HasAtMostOne kept writer waiting → IsUnderWay writer
under_way kept writer waiting some (inl idle) = absurd (let none = ap (λ (l : List ℕ). length l) idle.none_flies in omega (arith, none, some))
under_way kept writer waiting some (inr (inl going)) = go (open_stream writer.past) refl going.on
  where
    go : (o : Option ℕ) → open_stream writer.past ≡ o → IsSome o → IsUnderWay writer
    go None is on = cc
    go (Some stream) is on = record { frame = going.frame; stream = stream; newest = going.newest; on = is }
under_way kept writer waiting some (inr (inr come)) = absurd (let none = ap (λ (l : List ℕ). length l) come.none_flies in omega (arith, none, some))

-- the end from which the bytes went
went_is : (limit h k count : ℕ) (past : List Event) (old : JointEnd) (stream : ℕ) → open_stream (journal h k past) ≡ Some stream → count ≤ length (in_flight h k past) →
    TellsEnd limit h k None past old → TellsEnd limit h k None (Moved h k count ∷ past) (went count old)
went_is limit h k count past old stream on most t = record {
  slots_are = t.slots_are;
  journal_is = t.journal_is;
  limit_is = t.limit_is;
  waiting_is = t.waiting_is;
  flying_is = ap (drop count) t.flying_is ∙ drop-drop count (moved_count h k past) (written_to_open (journal h k past))
      ∙ ap (λ n. drop n (written_to_open (journal h k past))) (sym (moved_here h k count past));
  within = λ z on_z.
      let same : Some z ≡ Some stream = sym on_z ∙ on in
      let is : z ≡ stream = cc in
      let bytes : written_to_open (journal h k past) ≡ written_bytes z (journal h k past) =
      ap (λ (o : Option ℕ). option_map_or (λ x. written_bytes x (journal h k past)) o []) on_z in
      let flight : length (in_flight h k past) ≡ length (written_to_open (journal h k past)) - moved_count h k past = length-drop (moved_count h k past) (written_to_open (journal h k past)) in
      let long : length (written_to_open (journal h k past)) ≡ length (written_bytes z (journal h k past)) = ap (λ (l : List ℕ). length l) bytes in
      omega (arith, moved_here h k count past, t.within z on_z, flight, long, most);
}

-- which frame waits then
abbrev waits_after : (h k : ℕ) → List Event → Option Frame
waits_after h k past = if length (in_flight h k past) == 0 then last_pulled_frame (journal h k past) else None

-- the end to which they went
came_is : (count : ℕ) (writer reader : JointEnd) → 0 < length writer.flying → reader.waiting ≡ None →
    came count writer reader ≡ record reader { waiting = (if length (drop count writer.flying) == 0 then last_pulled_frame writer.past else None) }
came_is count writer reader some none = go writer.flying (drop count writer.flying) some
  where
    go : (flying left : List ℕ) → 0 < length flying →
        came_from flying left writer reader ≡ record reader { waiting = (if length left == 0 then last_pulled_frame writer.past else None) }
    go [] left some = absurd (omega (arith, some))
    go (byte ∷ bytes) [] some = refl
    go (byte ∷ bytes) (next ∷ more) some =
        ap (λ (w : Option Frame). record reader { waiting = w })
        (none ∙ sym (cond-false (length (next ∷ more) == 0) (last_pulled_frame writer.past) None (ne_eqb (length (next ∷ more)) 0 (λ e. omega (arith, e)))))

-- the world after it
pub tells_fed : (limit hosts h k count : ℕ) (past : List Event) (s t : State) → k ≢ h → s.mesh.count ≡ hosts → h < hosts → k < hosts →
    Tells limit hosts past s → 0 < length (in_flight h k past) → count ≤ length (in_flight h k past) →
    KnownOfEnds (end_at h k s.mesh) (end_at k h s.mesh) →
    ChangesPair h k (went count (end_at h k s.mesh)) (came count (end_at h k s.mesh) (end_at k h s.mesh)) s.mesh t.mesh →
    t ≡ record s { mesh = t.mesh } → BytesCame limit hosts h k (Moved h k count ∷ past) t
tells_fed limit hosts h k count past s t apart count_is h_in k_in told some most known changed rest = record {
  flying = ap (λ (e : JointEnd). e.flying) changed.here_is ∙ here_after.flying_is;
  whole = λ none. (
    under.stream,
    under.frame,
    record {
      tells = tells_same_waiting (one_waits k h (waits_after h k later)) (one_waits k h (Some under.frame)) limit hosts later t
          (λ a b. ap (λ (f : Option Frame). one_waits k h f a b) (sym (whole_is none))) tells;
      newest = newest;
      on = ap open_stream (sym there.journal_is) ∙ sym known.streams ∙ under.on;
    },
  );
  part = λ left. tells_same_waiting (one_waits k h (waits_after h k later)) none_waits limit hosts later t (λ a b. sym (part_is left a b)) tells;
}
  where
    later : List Event
    later = Moved h k count ∷ past

    here : TellsEnd limit h k None past (end_at h k s.mesh)
    here = told.ends_are h k h_in k_in apart

    there : TellsEnd limit k h None past (end_at k h s.mesh)
    there = told.ends_are k h k_in h_in (λ e. apart (sym e))

    under : IsUnderWay (end_at h k s.mesh)
    under = under_way known.one_forth.0 (end_at h k s.mesh) (end_at k h s.mesh).waiting
        (let flies = ap (λ (l : List ℕ). length l) here.flying_is in omega (arith, flies, some)) known.one_forth.1

    newest : last_pulled_frame (journal h k past) ≡ Some under.frame
    newest = ap last_pulled_frame (sym here.journal_is) ∙ under.newest

    here_after : TellsEnd limit h k None (Moved h k count ∷ past) (went count (end_at h k s.mesh))
    here_after = went_is limit h k count past (end_at h k s.mesh) under.stream (ap open_stream (sym here.journal_is) ∙ under.on) most here

    whole_is : in_flight h k (Moved h k count ∷ past) ≡ [] → waits_after h k (Moved h k count ∷ past) ≡ Some under.frame
    whole_is none =
        cond-true (length (in_flight h k (Moved h k count ∷ past)) == 0) (last_pulled_frame (journal h k past)) None
        (eq-eqb (length (in_flight h k (Moved h k count ∷ past))) 0 (ap (λ (l : List ℕ). length l) none)) ∙ newest

    part_is : 0 < length (in_flight h k (Moved h k count ∷ past)) → (a b : ℕ) → one_waits k h (waits_after h k (Moved h k count ∷ past)) a b ≡ None
    part_is left a b =
        ap (λ (f : Option Frame). one_waits k h f a b)
        (cond-false (length (in_flight h k (Moved h k count ∷ past)) == 0) (last_pulled_frame (journal h k past)) None
        (ne_eqb (length (in_flight h k (Moved h k count ∷ past))) 0 (λ e. omega (arith, left, e))))
        ∙ none_at (a == k && (b == h))
      where
        none_at : (x : Bool) → cond {A = Option Frame} x None None ≡ None
        none_at true = refl
        none_at false = refl

    still : (a b : ℕ) → (a ≡ h → b ≡ k → ⊥) → IsStill a b past (Moved h k count ∷ past)
    still a b never = record { journal_same = refl; moved_same = moved_elsewhere h k a b count past never }

    there_waits : came count (end_at h k s.mesh) (end_at k h s.mesh) ≡ record (end_at k h s.mesh) { waiting = waits_after h k (Moved h k count ∷ past) }
    there_waits =
        came_is count (end_at h k s.mesh) (end_at k h s.mesh) (let flies = ap (λ (l : List ℕ). length l) here.flying_is in omega (arith, flies, some)) there.waiting_is
        ∙ ap (λ (l : List ℕ). record (end_at k h s.mesh) { waiting = (if length l == 0 then last_pulled_frame (end_at h k s.mesh).past else None) }) here_after.flying_is
        ∙ ap (λ (j : List Entry). record (end_at k h s.mesh) { waiting = (if length (in_flight h k (Moved h k count ∷ past)) == 0 then last_pulled_frame j else None) }) here.journal_is

    there_after : TellsEnd limit k h (waits_after h k (Moved h k count ∷ past)) (Moved h k count ∷ past) (record (end_at k h s.mesh) { waiting = waits_after h k (Moved h k count ∷ past) })
    there_after =
        let t = end_still limit k h None past (Moved h k count ∷ past) (end_at k h s.mesh) (still k h (λ x y. apart x)) there in record {
          slots_are = t.slots_are;
          journal_is = t.journal_is;
          limit_is = t.limit_is;
          waiting_is = refl;
          flying_is = t.flying_is;
          within = t.within;
        }

    tells : TellsWaiting (one_waits k h (waits_after h k (Moved h k count ∷ past))) limit hosts (Moved h k count ∷ past) t
    tells =
        subst (TellsWaiting (one_waits k h (waits_after h k (Moved h k count ∷ past))) limit hosts (Moved h k count ∷ past)) (sym rest)
        (tells_changed none_waits (one_waits k h (waits_after h k (Moved h k count ∷ past))) limit hosts h k past (Moved h k count ∷ past) (went count (end_at h k s.mesh))
        (came count (end_at h k s.mesh) (end_at k h s.mesh)) s (record s { mesh = t.mesh }) apart count_is told changed
        (subst (λ (f : Option Frame). TellsEnd limit h k f (Moved h k count ∷ past) (went count (end_at h k s.mesh)))
        (sym (waits_back k h (waits_after h k (Moved h k count ∷ past)) (λ e. apart (sym e)))) here_after)
        (subst (λ (f : Option Frame). TellsEnd limit k h f (Moved h k count ∷ past) (came count (end_at h k s.mesh) (end_at k h s.mesh)))
        (sym (waits_here k h (waits_after h k (Moved h k count ∷ past))))
        (subst (TellsEnd limit k h (waits_after h k (Moved h k count ∷ past)) (Moved h k count ∷ past)) (sym there_waits) there_after))
        (λ a b o. still a b (λ x y. o.not_forth x y))
        (λ a b o. waits_elsewhere k h a b (waits_after h k (Moved h k count ∷ past)) (λ x. o.not_back x))
        (hosts_untouched hosts (Moved h k count) past s.hosts (λ a. tt) told.hosts_are)
        (λ a b a_in b_in p is. let q = told.peers_are a b a_in b_in p is in record { map_is = q.map_is; version_is = q.version_is })
        refl refl told.text_is)

-- some bytes came, and the frame was read with the last of them
pub moved_whole : (h k count : ℕ) (past : List Event) → in_flight h k (Moved h k count ∷ past) ≡ [] → read k h (Moved h k count ∷ past) ≡ move_piece h k count past
moved_whole h k count past none =
    sym (cond-true (length (in_flight h k (Moved h k count ∷ past)) == 0) (read k h (Moved h k count ∷ past)) (Moved h k count ∷ past)
    (eq-eqb (length (in_flight h k (Moved h k count ∷ past))) 0 (ap (λ (l : List ℕ). length l) none)))

pub moved_part : (h k count : ℕ) (past : List Event) → 0 < length (in_flight h k (Moved h k count ∷ past)) → (Moved h k count ∷ past) ≡ move_piece h k count past
moved_part h k count past left =
    sym (cond-false (length (in_flight h k (Moved h k count ∷ past)) == 0) (read k h (Moved h k count ∷ past)) (Moved h k count ∷ past)
    (ne_eqb (length (in_flight h k (Moved h k count ∷ past))) 0 (λ e. omega (arith, left, e))))

-- as many bytes went as were asked for
pub fed_well : (h k count : ℕ) (past : List Event) (old new : MeshView) (r : Result ℕ PairError) (tried : Result ℕ Stop) (x limit : ℕ) →
    TellsEnd limit h k None past (end_at h k old) → count ≤ length (in_flight h k past) → tried ≡ or_memory r → tried ≡ Ok x →
    IfOk r (λ used. used ≡ min count (length (end_at h k old).flying)) →
    IfOk r (λ used. ChangesPair h k (went used (end_at h k old)) (came used (end_at h k old) (end_at k h old)) old new) →
    ChangesPair h k (went count (end_at h k old)) (came count (end_at h k old) (end_at k h old)) old new
fed_well h k count past old new (Ok used) tried x limit t most is ok used_is done =
    let flies = ap (λ (l : List ℕ). length l) t.flying_is in
    let same : used ≡ count = omega (arith, used_is, flies, most) in
    subst (λ (n : ℕ). ChangesPair h k (went n (end_at h k old)) (came n (end_at h k old) (end_at k h old)) old new) same done
fed_well h k count past old new (Err why) tried x limit t most is ok used_is done = let no = sym is ∙ ok in cc
