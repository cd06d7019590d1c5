-- A world in which a stream was opened or shut at both ends.
use Rattle.std.proofs.Common.{◌≡◌, ◌≢◌, ℕ, suc, ◌+◌, ◌<◌, ◌==◌, ◌&&◌, Bool, true, false, cond, Option, Some, None, Result, Ok, Err, List, [], ◌∷◌, ◌++◌, refl, sym, ◌∙◌, ap, subst, arith}
use Rattle.std.specs.Prelude.{IsSome, OnOk}
use Rattle.rds_model.specs.declared.entry.Entry.{Entry}
use Rattle.rds_model.specs.declared.entry.Entry.TheVariants.{Open, Shut}
use Rattle.rds_model.specs.Legal.{IsLegal}
use Rattle.rds_model.specs.Past.{accepted, newest_stream, open_stream}
use Rattle.rds_model.specs.Drained.{last_map_read}
use Rattle.rds_play_pair.specs.declared.error.PairError.{PairError}
use Rattle.rds_play_pair.specs.Ends.{JointEnd}
use Rattle.rds_play_pair.specs.Steps.{opened, opened_from, shut_from, stream_shut}
use Rattle.rds_play_mesh.specs.Ends.{ChangesPair, MeshView, end_at}
use Rattle.rds_play_mesh.specs.Known.{KnownOfEnds}
use Rattle.rds_history.specs.Events.{Event, Appended}
use Rattle.rds_history.specs.Journals.{journal, maps_read}
use Rattle.rds_history.specs.Transcript.{entry_line}
use Rattle.rds_play_hosts.specs.HostLaws.{untouched}
use Rattle.rds_play_world.specs.declared.peer_map.PeerMap.{PeerMap}
use Rattle.rds_play_world.specs.declared.stop.Stop.{Stop}
use Rattle.rds_play_world.specs.Readiness.{or_memory}
use Rattle.rds_play_world.specs.Happening.{both_opened, both_shut}
use Rattle.rds_play_world.specs.Printing.{PrintsAlone}
use Rattle.rds_play_world.specs.Telling.{State, Tells, TellsEnd, TellsPeer, none_waits}
use Rattle.rds_play_world.proofs.Journaling.{journal_there}
use Rattle.rds_play_world.proofs.Ends.{appended_elsewhere, end_opened, end_shut, end_still, ends_changed, still_then}

-- what a line that was printed leaves
abbrev pub Prints : {A E : Type 0} (h k : ℕ) (result : Result A E) (m : MeshView) (s t : State) → Type 0
Prints h k result m s t = OnOk result ((e : Entry) (before : List Entry) → (end_at h k m).past ≡ e ∷ before →
    PrintsAlone (accepted (e ∷ before)) before e → t ≡ record s { text = s.text ++ entry_line h k before e })

opened_is : (h k : ℕ) (past : List Event) (e : JointEnd) → e.past ≡ journal h k past → open_stream (journal h k past) ≡ None →
    opened e ≡ record e { past = Open (suc (newest_stream (journal h k past))) ∷ e.past }
opened_is h k past e is closed =
    ap (λ o. opened_from o e) (ap open_stream is ∙ closed)
    ∙ (let next : newest_stream e.past + 1 ≡ suc (newest_stream (journal h k past)) = (let same = ap newest_stream is in omega (arith, same)) in
    ap (λ n. record e { past = Open n ∷ e.past }) next)

-- a step that went well did what it says
pub went_well : {A : Type 0} (P : Type 0) (r : Result A PairError) (tried : Result A Stop) (x : A) → tried ≡ or_memory r → tried ≡ Ok x → OnOk r P → P
went_well P (Ok y) tried x is ok done = done
went_well P (Err why) tried x is ok done = let no = sym is ∙ ok in cc

-- an entry of a journal that delivers nothing, and is no map, was appended: what a host knows of its peers stays
pub peer_quiet : (h k a b : ℕ) (e : Entry) (past : List Event) (p : PeerMap) → ((j : List Entry) → last_map_read (e ∷ j) ≡ last_map_read j) →
    ((j : List Entry) → maps_read (e ∷ j) ≡ maps_read j) → TellsPeer a b past p → TellsPeer a b (Appended h k e ∷ past) p
peer_quiet h k a b e past p no_map none_more t =
    record { map_is = t.map_is ∙ sym (last_same (h == a && (k == b))); version_is = t.version_is ∙ sym (count_same (h == a && (k == b))) }
  where
    last_same : (here : Bool) → last_map_read (cond here (e ∷ journal a b past) (journal a b past)) ≡ last_map_read (journal a b past)
    last_same true = no_map (journal a b past)
    last_same false = refl

    count_same : (here : Bool) → maps_read (cond here (e ∷ journal a b past) (journal a b past)) ≡ maps_read (journal a b past)
    count_same true = none_more (journal a b past)
    count_same false = refl

-- both ends opened their next stream
pub tells_opened : {B F : Type 0} (limit hosts h k : ℕ) (past : List Event) (s : State) (m : MeshView) (t u : State) (last : Result B F) →
    Tells limit hosts past s → s.mesh.count ≡ hosts → h < s.count → k < s.count → k ≢ h → open_stream (journal h k past) ≡ None →
    KnownOfEnds (end_at h k s.mesh) (end_at k h s.mesh) →
    ChangesPair h k (opened (end_at h k s.mesh)) (opened (end_at k h s.mesh)) s.mesh m →
    ((e : Entry) (before : List Entry) → (end_at h k m).past ≡ e ∷ before →
    PrintsAlone (accepted (e ∷ before)) before e → t ≡ record s { mesh = m; text = s.text ++ entry_line h k before e }) →
    OnOk last ((e : Entry) (before : List Entry) → (end_at k h t.mesh).past ≡ e ∷ before →
    PrintsAlone (accepted (e ∷ before)) before e → u ≡ record t { text = t.text ++ entry_line k h before e }) →
    OnOk last (Tells limit hosts (both_opened h k past) u)
tells_opened limit hosts h k past s m t u (Err why) told count h_in k_in apart closed known changed printed last = tt
tells_opened limit hosts h k past s m t u (Ok x) told count h_in k_in apart closed known changed printed last =
    subst (Tells limit hosts later) (sym u_is) (record {
      limit_is = told.limit_is;
      count_is = told.count_is;
      text_is = ap (λ (l : List ℕ). (l ++ line_one) ++ line_two) told.text_is;
      hosts_are = λ a a_in y is. untouched a second first_past y (λ _. refl) (untouched a first_ past y (λ _. refl) (told.hosts_are a a_in y is));
      ends_are = ends_changed limit hosts h k none_waits none_waits past later (opened here) (opened there) s.mesh m count apart told.ends_are changed
          here_told there_told
          (λ a b o. still_then a b past first_past later (appended_elsewhere h k a b (Open n) past (λ e f. o.not_forth e f))
          (appended_elsewhere k h a b (Open n_two) first_past (λ e f. o.not_back e f)))
          (λ a b o. refl);
      peers_are = λ a b a_in b_in p is. peer_quiet k h a b (Open n_two) first_past p (λ j. refl) (λ j. refl)
          (peer_quiet h k a b (Open n) past p (λ j. refl) (λ j. refl) (told.peers_are a b a_in b_in p is));
    })
  where
    here : JointEnd
    here = end_at h k s.mesh

    there : JointEnd
    there = end_at k h s.mesh

    h_at : h < hosts
    h_at = subst (λ n. h < n) told.count_is h_in

    k_at : k < hosts
    k_at = subst (λ n. k < n) told.count_is k_in

    here_was : TellsEnd limit h k None past here
    here_was = told.ends_are h k h_at k_at apart

    there_was : TellsEnd limit k h None past there
    there_was = told.ends_are k h k_at h_at (λ e. apart (sym e))

    n : ℕ
    n = suc (newest_stream (journal h k past))

    first_ : Event
    first_ = Appended h k (Open n)

    first_past : List Event
    first_past = first_ ∷ past

    n_two : ℕ
    n_two = suc (newest_stream (journal k h first_past))

    second : Event
    second = Appended k h (Open n_two)

    later : List Event
    later = second ∷ first_past

    line_one : List ℕ
    line_one = entry_line h k (journal h k past) (Open n)

    line_two : List ℕ
    line_two = entry_line k h (journal k h first_past) (Open n_two)

    journal_k : journal k h first_past ≡ journal k h past
    journal_k = journal_there h k k h (Open n) past (λ e f. apart e)

    here_opened : opened here ≡ record here { past = Open n ∷ here.past }
    here_opened = opened_is h k past here here_was.journal_is closed

    closed_k : open_stream (journal k h first_past) ≡ None
    closed_k = ap open_stream (journal_k ∙ sym there_was.journal_is) ∙ sym known.streams ∙ ap open_stream here_was.journal_is ∙ closed

    there_opened : opened there ≡ record there { past = Open n_two ∷ there.past }
    there_opened = opened_is k h first_past there (there_was.journal_is ∙ sym journal_k) closed_k

    legal_h : IsLegal (journal h k past)
    legal_h = subst IsLegal here_was.journal_is known.whole_here.legal

    legal_k : IsLegal (journal k h first_past)
    legal_k = subst IsLegal (there_was.journal_is ∙ sym journal_k) known.whole_there.legal

    here_told : TellsEnd limit h k None later (opened here)
    here_told = end_still limit h k None first_past later (opened here) (appended_elsewhere k h h k (Open n_two) first_past (λ e f. apart f))
        (end_opened limit h k n None past here (opened here) legal_h (omega arith) closed here_was here_opened)

    there_told : TellsEnd limit k h None later (opened there)
    there_told = end_opened limit k h n_two None first_past there (opened there) legal_k (omega arith) closed_k
        (end_still limit k h None past first_past there (appended_elsewhere h k k h (Open n) past (λ e f. apart e)) there_was) there_opened

    t_is : t ≡ record s { mesh = m; text = s.text ++ line_one }
    t_is =
        printed (Open n) here.past (ap (λ (e : JointEnd). e.past) (changed.here_is ∙ here_opened)) tt
        ∙ ap (λ (j : List Entry). record s { mesh = m; text = s.text ++ entry_line h k j (Open n) }) here_was.journal_is

    u_is : u ≡ record s { mesh = m; text = (s.text ++ line_one) ++ line_two }
    u_is =
        last (Open n_two) there.past
        (ap (λ (v : State). (end_at k h v.mesh).past) t_is ∙ ap (λ (e : JointEnd). e.past) (changed.there_is ∙ there_opened)) tt
        ∙ ap (λ (v : State). record v { text = v.text ++ entry_line k h there.past (Open n_two) }) t_is

shut_is : (e : JointEnd) (s : ℕ) → open_stream e.past ≡ Some s → stream_shut e ≡ record e { past = Shut s ∷ e.past; waiting = None; flying = [] }
shut_is e s on = ap (λ o. shut_from o e) on

-- both ends shut their stream
pub tells_shut : {B F : Type 0} (limit hosts h k n : ℕ) (past : List Event) (s : State) (m : MeshView) (t u : State) (last : Result B F) →
    Tells limit hosts past s → s.mesh.count ≡ hosts → h < s.count → k < s.count → k ≢ h → open_stream (journal h k past) ≡ Some n →
    KnownOfEnds (end_at h k s.mesh) (end_at k h s.mesh) →
    ChangesPair h k (stream_shut (end_at h k s.mesh)) (stream_shut (end_at k h s.mesh)) s.mesh m →
    ((e : Entry) (before : List Entry) → (end_at h k m).past ≡ e ∷ before →
    PrintsAlone (accepted (e ∷ before)) before e → t ≡ record s { mesh = m; text = s.text ++ entry_line h k before e }) →
    OnOk last ((e : Entry) (before : List Entry) → (end_at k h t.mesh).past ≡ e ∷ before →
    PrintsAlone (accepted (e ∷ before)) before e → u ≡ record t { text = t.text ++ entry_line k h before e }) →
    OnOk last (Tells limit hosts (both_shut h k n past) u)
tells_shut limit hosts h k n past s m t u (Err why) told count h_in k_in apart on known changed printed last = tt
tells_shut limit hosts h k n past s m t u (Ok x) told count h_in k_in apart on known changed printed last =
    subst (Tells limit hosts later) (sym u_is) (record {
      limit_is = told.limit_is;
      count_is = told.count_is;
      text_is = ap (λ (l : List ℕ). (l ++ line_one) ++ line_two) told.text_is;
      hosts_are = λ a a_in y is. untouched a second first_past y (λ _. refl) (untouched a first_ past y (λ _. refl) (told.hosts_are a a_in y is));
      ends_are = ends_changed limit hosts h k none_waits none_waits past later (stream_shut here) (stream_shut there) s.mesh m count apart told.ends_are changed
          here_told there_told
          (λ a b o. still_then a b past first_past later (appended_elsewhere h k a b (Shut n) past (λ e f. o.not_forth e f))
          (appended_elsewhere k h a b (Shut n) first_past (λ e f. o.not_back e f)))
          (λ a b o. refl);
      peers_are = λ a b a_in b_in p is. peer_quiet k h a b (Shut n) first_past p (λ j. refl) (λ j. refl)
          (peer_quiet h k a b (Shut n) past p (λ j. refl) (λ j. refl) (told.peers_are a b a_in b_in p is));
    })
  where
    here : JointEnd
    here = end_at h k s.mesh

    there : JointEnd
    there = end_at k h s.mesh

    h_at : h < hosts
    h_at = subst (λ n. h < n) told.count_is h_in

    k_at : k < hosts
    k_at = subst (λ n. k < n) told.count_is k_in

    here_was : TellsEnd limit h k None past here
    here_was = told.ends_are h k h_at k_at apart

    there_was : TellsEnd limit k h None past there
    there_was = told.ends_are k h k_at h_at (λ e. apart (sym e))

    first_ : Event
    first_ = Appended h k (Shut n)

    first_past : List Event
    first_past = first_ ∷ past

    second : Event
    second = Appended k h (Shut n)

    later : List Event
    later = second ∷ first_past

    line_one : List ℕ
    line_one = entry_line h k (journal h k past) (Shut n)

    line_two : List ℕ
    line_two = entry_line k h (journal k h first_past) (Shut n)

    here_shut : stream_shut here ≡ record here { past = Shut n ∷ here.past; waiting = None; flying = [] }
    here_shut = shut_is here n (ap open_stream here_was.journal_is ∙ on)

    there_shut : stream_shut there ≡ record there { past = Shut n ∷ there.past; waiting = None; flying = [] }
    there_shut = shut_is there n (sym known.streams ∙ ap open_stream here_was.journal_is ∙ on)

    here_told : TellsEnd limit h k None later (stream_shut here)
    here_told = end_still limit h k None first_past later (stream_shut here) (appended_elsewhere k h h k (Shut n) first_past (λ e f. apart f))
        (end_shut limit h k n None past here (stream_shut here) here_was here_shut)

    there_told : TellsEnd limit k h None later (stream_shut there)
    there_told = end_shut limit k h n None first_past there (stream_shut there)
        (end_still limit k h None past first_past there (appended_elsewhere h k k h (Shut n) past (λ e f. apart e)) there_was) there_shut

    t_is : t ≡ record s { mesh = m; text = s.text ++ line_one }
    t_is =
        printed (Shut n) here.past (ap (λ (e : JointEnd). e.past) (changed.here_is ∙ here_shut)) tt
        ∙ ap (λ (j : List Entry). record s { mesh = m; text = s.text ++ entry_line h k j (Shut n) }) here_was.journal_is

    u_is : u ≡ record s { mesh = m; text = (s.text ++ line_one) ++ line_two }
    u_is =
        last (Shut n) there.past
        (ap (λ (v : State). (end_at k h v.mesh).past) t_is ∙ ap (λ (e : JointEnd). e.past) (changed.there_is ∙ there_shut)) tt
        ∙ ap (λ (v : State). record v { text = v.text ++ entry_line k h there.past (Shut n) }) t_is

-- the peer has the same stream
pub same_stream : (limit hosts h k n : ℕ) (past : List Event) (s : State) → Tells limit hosts past s → h < s.count → k < s.count → k ≢ h →
    open_stream (journal h k past) ≡ Some n → KnownOfEnds (end_at h k s.mesh) (end_at k h s.mesh) → open_stream (journal k h past) ≡ Some n
same_stream limit hosts h k n past s told h_in k_in apart on known =
    let h_at : h < hosts = subst (λ n. h < n) told.count_is h_in in
    let k_at : k < hosts = subst (λ n. k < n) told.count_is k_in in
    ap open_stream (sym (told.ends_are k h k_at h_at (λ e. apart (sym e))).journal_is) ∙ sym known.streams
    ∙ ap open_stream (told.ends_are h k h_at k_at apart).journal_is ∙ on

-- what an option has
pub some_in : (o : Option ℕ) → IsSome o → (x : ℕ) × (o ≡ Some x)
some_in None on = cc
some_in (Some x) on = (x, refl)
