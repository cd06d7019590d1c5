-- A world after the frame that is owed was pulled.
use Rattle.std.proofs.Common.{◌≡◌, ◌≢◌, ℕ, ◌<◌, ◌≤◌, ◌==◌, Option, Some, None, List, [], ◌∷◌, ◌++◌, length, drop, refl, sym, ◌∙◌, ap, subst, arith}
use Rattle.std.specs.Option.{option_map_or}
use Rattle.std.specs.List.{flat_map}
use Rattle.std.proofs.lemmas.Bool.{cond-true, eq-eqb}
use Rattle.std.proofs.lemmas.List.{drop_at, length-append, length-drop, append-nil}
use Rattle.std.proofs.lemmas.List.Concat.{flat_map-append}
use Rattle.rds_wire.specs.declared.frame.Frame.{Frame}
use Rattle.rds_wire.specs.Bytes.{frame_bytes}
use Rattle.rds_model.specs.declared.entry.Entry.{Entry}
use Rattle.rds_model.specs.declared.entry.Entry.TheVariants.{Pull}
use Rattle.rds_model.specs.Owed.{owed_frame}
use Rattle.rds_model.specs.Past.{accepted, open_stream}
use Rattle.rds_model.specs.Streams.{pulled_frames, written_bytes}
use Rattle.rds_play_pair.specs.Ends.{JointEnd}
use Rattle.rds_play_pair.specs.Steps.{pulled, pulled_from, with_pull}
use Rattle.rds_play_mesh.specs.Ends.{ChangesPair, end_at}
use Rattle.rds_history.specs.Events.{Event, Appended}
use Rattle.rds_history.specs.Journals.{journal, moved_count, in_flight, own_map, written_to_open}
use Rattle.rds_history.specs.PullAndRead.{pull, pull_on}
use Rattle.rds_history.specs.Transcript.{entry_line, lines}
use Rattle.rds_play_world.specs.Printing.{PrintsAlone}
use Rattle.rds_play_world.specs.Telling.{State, Tells, TellsEnd, none_waits}
use Rattle.rds_play_world.proofs.Journaling.{journal_here}
use Rattle.rds_play_world.proofs.Ends.{appended_elsewhere, end_still}
use Rattle.rds_play_world.proofs.Changing.{hosts_untouched, peers_no_map, tells_changed}

-- what is written to a stream with one frame more
written_more : (s : ℕ) (f : Frame) (j : List Entry) → written_bytes s (Pull s f ∷ j) ≡ written_bytes s j ++ frame_bytes f
written_more s f j =
    ap (λ (fs : List Frame). flat_map frame_bytes fs) (cond-true (s == s) (pulled_frames s j ++ f ∷ []) (pulled_frames s j) (eq-eqb s s refl))
    ∙ flat_map-append frame_bytes (pulled_frames s j) (f ∷ []) ∙ ap (λ (l : List ℕ). written_bytes s j ++ l) (append-nil (frame_bytes f))

-- the bytes that were written to an open stream
to_open : (s : ℕ) (j : List Entry) → open_stream j ≡ Some s → written_to_open j ≡ written_bytes s j
to_open s j on = ap (λ (o : Option ℕ). option_map_or (λ stream. written_bytes stream j) o []) on

-- the end after it pulled
pub end_pulled : (limit h k s : ℕ) (f : Frame) (past : List Event) (old : JointEnd) → open_stream (journal h k past) ≡ Some s →
    in_flight h k past ≡ [] → TellsEnd limit h k None past old →
    TellsEnd limit h k None (Appended h k (Pull s f) ∷ past) (record old { past = Pull s f ∷ old.past; flying = frame_bytes f })
end_pulled limit h k s f past old on idle t = record {
  slots_are = t.slots_are;
  journal_is = ap (λ (l : List Entry). Pull s f ∷ l) t.journal_is ∙ sym here;
  limit_is = t.limit_is;
  waiting_is = t.waiting_is;
  flying_is = sym flight;
  within = λ z on_z.
      let same : Some z ≡ Some s = sym on_z ∙ ap open_stream here ∙ on in
      let is : z ≡ s = cc in
      subst (λ i. m ≤ length (written_bytes i (journal h k (Appended h k (Pull s f) ∷ past)))) (sym is)
      (subst (λ (l : List ℕ). m ≤ length l) (sym bytes)
      (omega (arith, fits, length-append (written_bytes s j) (frame_bytes f))));
}
  where
    j : List Entry
    j = journal h k past

    m : ℕ
    m = moved_count h k past

    here : journal h k (Appended h k (Pull s f) ∷ past) ≡ Pull s f ∷ journal h k past
    here = journal_here h k (Pull s f) past

    bytes : written_bytes s (journal h k (Appended h k (Pull s f) ∷ past)) ≡ written_bytes s (journal h k past) ++ frame_bytes f
    bytes = ap (written_bytes s) here ∙ written_more s f (journal h k past)

    fits : moved_count h k past ≤ length (written_bytes s (journal h k past))
    fits = t.within s on

    all : length (written_bytes s (journal h k past)) ≡ moved_count h k past
    all =
        let none : drop (moved_count h k past) (written_bytes s (journal h k past)) ≡ [] = ap (drop (moved_count h k past)) (sym (to_open s (journal h k past) on)) ∙ idle in
        let zero : length (drop (moved_count h k past) (written_bytes s (journal h k past))) ≡ 0 = ap length none in
        omega (arith, zero, fits, length-drop (moved_count h k past) (written_bytes s (journal h k past)))

    flight : in_flight h k (Appended h k (Pull s f) ∷ past) ≡ frame_bytes f
    flight =
        ap (drop (moved_count h k past)) (to_open s (journal h k (Appended h k (Pull s f) ∷ past)) (ap open_stream here ∙ on) ∙ bytes)
        ∙ drop_at (written_bytes s (journal h k past)) (frame_bytes f) (moved_count h k past) all

-- the world after it
pub tells_pulled : (limit hosts h k at : ℕ) (map : List ℕ) (past : List Event) (s t : State) → k ≢ h → s.mesh.count ≡ hosts → h < hosts → k < hosts →
    Tells limit hosts past s → in_flight h k past ≡ [] → map ≡ own_map h past →
    ChangesPair h k (pulled map (end_at k h s.mesh).waiting (end_at h k s.mesh)) (end_at k h s.mesh) s.mesh t.mesh →
    at ≡ length (end_at h k s.mesh).past →
    ((e : Entry) (before after : List Entry) → (end_at h k t.mesh).past ≡ after ++ e ∷ before → at ≡ length before →
    PrintsAlone (accepted (end_at h k t.mesh).past) before e → t.text ≡ s.text ++ entry_line h k before e) →
    (length (end_at h k t.mesh).past ≤ at → t.text ≡ s.text) →
    t ≡ record s { mesh = t.mesh; text = t.text } → Tells limit hosts (pull h k past) t
tells_pulled limit hosts h k at map past s t apart count h_in k_in told idle own changed at_is printed none rest =
    go (open_stream (journal h k past)) refl
  where
    here : TellsEnd limit h k None past (end_at h k s.mesh)
    here = told.ends_are h k h_in k_in apart

    there : TellsEnd limit k h None past (end_at k h s.mesh)
    there = told.ends_are k h k_in h_in (λ e. apart (sym e))

    -- what became of the end, by the stream
    end_is : (o : Option ℕ) → open_stream (journal h k past) ≡ o → pulled map (end_at k h s.mesh).waiting (end_at h k s.mesh) ≡ pulled_from o [] None map (end_at h k s.mesh)
    end_is o is =
        ap (λ (x : Option ℕ). pulled_from x (end_at h k s.mesh).flying (end_at k h s.mesh).waiting map (end_at h k s.mesh)) (ap open_stream here.journal_is ∙ is)
        ∙ ap (λ (l : List ℕ). pulled_from o l (end_at k h s.mesh).waiting map (end_at h k s.mesh)) (here.flying_is ∙ idle)
        ∙ ap (λ (w : Option Frame). pulled_from o [] w map (end_at h k s.mesh)) there.waiting_is

    kept : pulled map (end_at k h s.mesh).waiting (end_at h k s.mesh) ≡ end_at h k s.mesh → Tells limit hosts past t
    kept same =
        let text : t.text ≡ s.text = none (subst (λ (l : List Entry). length l ≤ at) (sym (ap (λ (x : JointEnd). x.past) (changed.here_is ∙ same))) (omega (arith, at_is))) in
        subst (Tells limit hosts past) (sym rest)
        (tells_changed none_waits none_waits limit hosts h k past past (end_at h k s.mesh) (end_at k h s.mesh) s (record s { mesh = t.mesh; text = t.text }) apart count told
        (subst (λ (x : JointEnd). ChangesPair h k x (end_at k h s.mesh) s.mesh t.mesh) same changed)
        here there (λ a b o. record { journal_same = refl; moved_same = refl }) (λ a b o. refl) told.hosts_are told.peers_are refl refl (text ∙ told.text_is))

    more : (stream : ℕ) (f : Frame) → open_stream (journal h k past) ≡ Some stream →
        pulled map (end_at k h s.mesh).waiting (end_at h k s.mesh) ≡ record (end_at h k s.mesh) { past = Pull stream f ∷ (end_at h k s.mesh).past; flying = frame_bytes f } →
        Tells limit hosts (Appended h k (Pull stream f) ∷ past) t
    more stream f on same =
        let e : Entry = Pull stream f in
        let past_is : (end_at h k t.mesh).past ≡ [] ++ e ∷ (end_at h k s.mesh).past = ap (λ (x : JointEnd). x.past) (changed.here_is ∙ same) in
        let text : t.text ≡ s.text ++ entry_line h k (end_at h k s.mesh).past e = printed e (end_at h k s.mesh).past [] past_is at_is tt in
        subst (Tells limit hosts (Appended h k e ∷ past)) (sym rest)
        (tells_changed none_waits none_waits limit hosts h k past (Appended h k e ∷ past)
        (record (end_at h k s.mesh) { past = Pull stream f ∷ (end_at h k s.mesh).past; flying = frame_bytes f }) (end_at k h s.mesh) s
        (record s { mesh = t.mesh; text = t.text }) apart count told
        (subst (λ (x : JointEnd). ChangesPair h k x (end_at k h s.mesh) s.mesh t.mesh) same changed)
        (end_pulled limit h k stream f past (end_at h k s.mesh) on idle here)
        (end_still limit k h None past (Appended h k e ∷ past) (end_at k h s.mesh) (appended_elsewhere h k k h e past (λ x y. apart x)) there)
        (λ a b o. appended_elsewhere h k a b e past (λ x y. o.not_forth x y)) (λ a b o. refl)
        (hosts_untouched hosts (Appended h k e) past s.hosts (λ a same_host. refl) told.hosts_are)
        (peers_no_map hosts h k e past s.peers (record { last_same = λ l. refl; count_same = λ l. refl }) told.peers_are) refl refl
        (text ∙ ap (λ (l : List ℕ). l ++ entry_line h k (end_at h k s.mesh).past e) told.text_is ∙ ap (λ (l : List Entry). lines past ++ entry_line h k l e) here.journal_is))

    end_on : (stream : ℕ) (x : Option Frame) → open_stream (journal h k past) ≡ Some stream → owed_frame stream (journal h k past) (own_map h past) ≡ x →
        pulled map (end_at k h s.mesh).waiting (end_at h k s.mesh) ≡ with_pull stream x (end_at h k s.mesh)
    end_on stream x is owed =
        end_is (Some stream) is
        ∙ ap (λ (y : Option Frame). with_pull stream y (end_at h k s.mesh))
        (ap (λ (l : List Entry). owed_frame stream l map) here.journal_is ∙ ap (owed_frame stream (journal h k past)) own ∙ owed)

    on_stream : (stream : ℕ) (x : Option Frame) → open_stream (journal h k past) ≡ Some stream → owed_frame stream (journal h k past) (own_map h past) ≡ x →
        Tells limit hosts (option_map_or (λ f. Appended h k (Pull stream f) ∷ past) x past) t
    on_stream stream None is owed = kept (end_on stream None is owed)
    on_stream stream (Some f) is owed = more stream f is (end_on stream (Some f) is owed)

    go : (o : Option ℕ) → open_stream (journal h k past) ≡ o → Tells limit hosts (option_map_or (λ stream. pull_on h k stream past) o past) t
    go None is = kept (end_is None is)
    go (Some stream) is = on_stream stream (owed_frame stream (journal h k past) (own_map h past)) is refl
