-- A world after a plain frame, a ping or a map was read.
use Rattle.std.proofs.Common.{◌≡◌, ◌≢◌, ◌⊎◌, inl, inr, ℕ, suc, ◌+◌, ◌*◌, ◌<◌, ◌≤◌, Bool, true, false, cond, Option, Some, None, Result, List, [], ◌∷◌, ◌++◌, length, set, refl, sym, ◌∙◌, ap, subst, arith}
use Rattle.std.specs.Prelude.{OnOk}
use Rattle.std.specs.Option.{option_map}
use Rattle.rds_wire.specs.declared.frame.Frame.{Frame}
use Rattle.rds_model.specs.declared.entry.Entry.{Entry}
use Rattle.rds_model.specs.declared.entry.Entry.TheVariants.{Accept, Cancel, Open, Pull, Read, Shut, Bad}
use Rattle.rds_model.specs.declared.entry.Outcome.{Outcome}
use Rattle.rds_model.specs.declared.entry.Outcome.TheVariants as outcome
use Rattle.rds_model.specs.declared.entry.Verdict.{Verdict}
use Rattle.rds_model.specs.declared.entry.Verdict.TheVariants as verdict
use Rattle.rds_model.specs.declared.entry.TheConstants.{NO_SLOT}
use Rattle.rds_model.specs.Drained.{last_map_read}
use Rattle.rds_model.specs.Past.{accepted, open_stream}
use Rattle.rds_model.specs.Legal.{pong_for}
use Rattle.rds_model.specs.Reading.{verdict_of}
use Rattle.rds_conn.specs.Passing.{outcome_of}
use Rattle.rds_play_pair.specs.Changes.{found_for}
use Rattle.rds_play_pair.specs.Ends.{JointEnd}
use Rattle.rds_play_pair.specs.Steps.{read_as}
use Rattle.rds_play_mesh.specs.Ends.{end_at}
use Rattle.rds_cong.specs.Limit.{congested_after}
use Rattle.rds_history.specs.Events.{Event, Appended, Marked}
use Rattle.rds_history.specs.Journals.{is_map_outcome, is_marked, journal, maps_read}
use Rattle.rds_history.specs.Mark.{update_mark}
use Rattle.rds_history.specs.PullAndRead.{answer, outcome_at, read, read_on}
use Rattle.rds_history.specs.Sockets.{queued, receive_buffer}
use Rattle.rds_history.specs.Transcript.{entry_line, lines}
use Rattle.rds_play_hosts.specs.declared.host.ScriptHost.{ScriptHost}
use Rattle.rds_play_hosts.specs.Elsewhere.{delivers}
use Rattle.rds_play_hosts.specs.HostLaws.{changed_either, untouched, untouched_by_mark}
use Rattle.rds_play_hosts.specs.Telling.{TellsHost}
use Rattle.rds_play_world.specs.declared.peer_map.PeerMap.{PeerMap}
use Rattle.rds_play_world.specs.declared.stop.Stop.{Stop}
use Rattle.rds_play_world.specs.Happening.{FrameWaits, IsOnlyPassed, IsRead, outcome_here}
use Rattle.rds_play_world.specs.Printing.{PrintsAlone}
use Rattle.rds_play_world.specs.Telling.{HostsTell, PeersTell, State, Tells, TellsEnd, TellsPeer, none_waits, one_waits}
use Rattle.rds_play_world.proofs.Journaling.{journal_here, journal_there}
use Rattle.rds_play_world.proofs.Replacing.{hosts_replaced, peers_replaced}
use Rattle.rds_play_world.proofs.Ends.{IsStill, appended_elsewhere, end_quiet, end_still, still_then}
use Rattle.rds_play_world.proofs.Changing.{IsNoMap, hosts_untouched, peers_no_map, tells_changed, waits_back, waits_elsewhere}
use Rattle.rds_play_world.proofs.Passing.{read_is, read_on_as, outcome_here_is, end_waits, tells_read}

-- a plain frame was read
plain_pong : (o : Outcome) (sport : ℕ) → IsOnlyPassed o → pong_for o sport ≡ None
plain_pong (outcome.Slot slot) sport plain = absurd plain
plain_pong outcome.Ping sport plain = absurd plain
plain_pong outcome.Map sport plain = absurd plain
plain_pong outcome.Old sport plain = refl
plain_pong outcome.NoSocket sport plain = refl
plain_pong outcome.Void sport plain = refl
plain_pong outcome.AckOnly sport plain = refl
plain_pong outcome.OddMap sport plain = refl

plain_map : (o : Outcome) (stream : ℕ) (f : Frame) → IsOnlyPassed o → IsNoMap (Read stream f o)
plain_map (outcome.Slot slot) stream f plain = absurd plain
plain_map outcome.Ping stream f plain = absurd plain
plain_map outcome.Map stream f plain = absurd plain
plain_map outcome.Old stream f plain = record { last_same = λ j. refl; count_same = λ j. refl }
plain_map outcome.NoSocket stream f plain = record { last_same = λ j. refl; count_same = λ j. refl }
plain_map outcome.Void stream f plain = record { last_same = λ j. refl; count_same = λ j. refl }
plain_map outcome.AckOnly stream f plain = record { last_same = λ j. refl; count_same = λ j. refl }
plain_map outcome.OddMap stream f plain = record { last_same = λ j. refl; count_same = λ j. refl }

plain_delivers : (o : Outcome) (stream : ℕ) (f : Frame) → IsOnlyPassed o → delivers (Read stream f o) ≡ false
plain_delivers (outcome.Slot slot) stream f plain = absurd plain
plain_delivers outcome.Ping stream f plain = absurd plain
plain_delivers outcome.Map stream f plain = absurd plain
plain_delivers outcome.Old stream f plain = refl
plain_delivers outcome.NoSocket stream f plain = refl
plain_delivers outcome.Void stream f plain = refl
plain_delivers outcome.AckOnly stream f plain = refl
plain_delivers outcome.OddMap stream f plain = refl

plain_answer : (o : Outcome) (k h : ℕ) (f : Frame) (past : List Event) → IsOnlyPassed o → answer k h f o past ≡ past
plain_answer (outcome.Slot slot) k h f past plain = absurd plain
plain_answer outcome.Ping k h f past plain = absurd plain
plain_answer outcome.Map k h f past plain = refl
plain_answer outcome.Old k h f past plain = refl
plain_answer outcome.NoSocket k h f past plain = refl
plain_answer outcome.Void k h f past plain = refl
plain_answer outcome.AckOnly k h f past plain = refl
plain_answer outcome.OddMap k h f past plain = refl

pub tells_plain : (limit hosts k h stream : ℕ) (f : Frame) (o : Outcome) (past : List Event) (s t : State) →
    h ≢ k → s.mesh.count ≡ hosts → k < hosts → h < hosts → FrameWaits limit hosts k h stream f past s → IsRead k h stream f o s t → IsOnlyPassed o →
    Tells limit hosts (Appended k h (Read stream f o) ∷ past) t
tells_plain limit hosts k h stream f o past s t apart count k_in h_in w came plain =
    tells_read limit hosts k h stream f o past s s.hosts s.peers t apart count k_in h_in w came (plain_pong o f.header.sport plain)
    (hosts_untouched hosts (Appended k h (Read stream f o)) past s.hosts (λ a same. plain_delivers o stream f plain) w.tells.hosts_are)
    (peers_no_map hosts k h (Read stream f o) past s.peers (plain_map o stream f plain) w.tells.peers_are)

-- a frame with this verdict, and such an outcome, was read as a plain one
pub read_plainly : {A : Type 0} (limit hosts k h stream : ℕ) (f : Frame) (past : List Event) (s t : State) (result : Result A Stop) (v : Verdict) (o : Outcome) →
    h ≢ k → k < hosts → h < hosts → FrameWaits limit hosts k h stream f past s → verdict_of (journal k h past) f.header ≡ v →
    outcome_of v (found_for (end_at k h s.mesh).slots None v) ≡ o → outcome_at k v past ≡ o → IsOnlyPassed o →
    (IsOnlyPassed (outcome_here None (end_at k h s.mesh) f) → OnOk result (Tells limit hosts (Appended k h (Read stream f (outcome_here None (end_at k h s.mesh) f)) ∷ past) t)) →
    OnOk result (Tells limit hosts (read_on k h stream f past) t)
read_plainly limit hosts k h stream f past s t result v o apart k_in h_in w is here became plain told =
    let e = end_waits limit hosts k h stream f past s k_in h_in apart w in
    let so : outcome_here None (end_at k h s.mesh) f ≡ o = outcome_here_is None (end_at k h s.mesh) (journal k h past) f v e.journal_is is ∙ here in
    subst (λ (p : List Event). OnOk result (Tells limit hosts p t)) (sym (plain_answer o k h f (Appended k h (Read stream f o) ∷ past) plain) ∙ read_on_as k h stream f past v o is became)
    (subst (λ (x : Outcome). OnOk result (Tells limit hosts (Appended k h (Read stream f x) ∷ past) t)) so (told (subst IsOnlyPassed (sym so) plain)))

-- a ping was read and answered
pub tells_ping : (limit hosts k h stream : ℕ) (f : Frame) (past : List Event) (s t u : State) →
    h ≢ k → s.mesh.count ≡ hosts → k < hosts → h < hosts → FrameWaits limit hosts k h stream f past s → IsRead k h stream f outcome.Ping s t →
    ((e : Entry) (before : List Entry) → (end_at k h t.mesh).past ≡ e ∷ before → PrintsAlone (accepted (e ∷ before)) before e →
    u ≡ record t { text = t.text ++ entry_line k h before e }) →
    Tells limit hosts (Appended k h (Accept NO_SLOT 0 f.header.sport []) ∷ Appended k h (Read stream f outcome.Ping) ∷ past) u
tells_ping limit hosts k h stream f past s t u apart count k_in h_in w came printed =
    subst (Tells limit hosts (Appended k h pong ∷ Appended k h ping ∷ past)) (sym u_is)
    (tells_changed (one_waits k h (Some f)) none_waits limit hosts k h past (Appended k h pong ∷ Appended k h ping ∷ past) (read_as stream f outcome.Ping (end_at k h s.mesh)) (end_at h k s.mesh) s
    (record s { mesh = t.mesh; text = (s.text ++ entry_line k h (end_at k h s.mesh).past ping) ++ entry_line k h (ping ∷ (end_at k h s.mesh).past) pong })
    apart count w.tells came.ends
    (end_quiet limit k h None None pong (Appended k h ping ∷ past) (record (end_at k h s.mesh) { past = ping ∷ (end_at k h s.mesh).past; waiting = None })
    (read_as stream f outcome.Ping (end_at k h s.mesh)) (λ j. refl) (λ z j. refl) refl
    (end_quiet limit k h (Some f) None ping past (end_at k h s.mesh) (record (end_at k h s.mesh) { past = ping ∷ (end_at k h s.mesh).past; waiting = None })
    (λ j. refl) (λ z j. refl) refl here refl) refl)
    (end_still limit h k None past (Appended k h pong ∷ Appended k h ping ∷ past) (end_at h k s.mesh) (still h k (λ x y. apart x)) there)
    (λ a b other. still a b (λ x y. other.not_forth x y))
    (λ a b other. sym (waits_elsewhere k h a b (Some f) (λ x. other.not_forth x)))
    (hosts_untouched hosts (Appended k h pong) (Appended k h ping ∷ past) s.hosts (λ a same. refl)
    (hosts_untouched hosts (Appended k h ping) past s.hosts (λ a same. refl) w.tells.hosts_are))
    (peers_no_map hosts k h pong (Appended k h ping ∷ past) s.peers (record { last_same = λ j. refl; count_same = λ j. refl })
    (peers_no_map hosts k h ping past s.peers (record { last_same = λ j. refl; count_same = λ j. refl }) w.tells.peers_are)) refl refl
    (ap (λ (l : List ℕ). (l ++ entry_line k h (end_at k h s.mesh).past ping) ++ entry_line k h (ping ∷ (end_at k h s.mesh).past) pong) w.tells.text_is
    ∙ ap (λ (l : List Entry). (lines past ++ entry_line k h l ping) ++ entry_line k h (ping ∷ l) pong) here.journal_is
    ∙ ap (λ (l : List Entry). (lines past ++ entry_line k h (journal k h past) ping) ++ entry_line k h l pong) (sym (journal_here k h ping past))))
  where
    ping : Entry
    ping = Read stream f outcome.Ping

    pong : Entry
    pong = Accept NO_SLOT 0 f.header.sport []

    here : TellsEnd limit k h (Some f) past (end_at k h s.mesh)
    here = end_waits limit hosts k h stream f past s k_in h_in apart w

    there : TellsEnd limit h k None past (end_at h k s.mesh)
    there = subst (λ (x : Option Frame). TellsEnd limit h k x past (end_at h k s.mesh)) (waits_back k h (Some f) apart) (w.tells.ends_are h k h_in k_in (λ e. apart (sym e)))

    still : (a b : ℕ) → (a ≡ k → b ≡ h → ⊥) → IsStill a b past (Appended k h pong ∷ Appended k h ping ∷ past)
    still a b never = still_then a b past (Appended k h ping ∷ past) (Appended k h pong ∷ Appended k h ping ∷ past) (appended_elsewhere k h a b ping past never)
        (appended_elsewhere k h a b pong (Appended k h ping ∷ past) never)

    u_is : u ≡ record s { mesh = t.mesh; text = (s.text ++ entry_line k h (end_at k h s.mesh).past ping) ++ entry_line k h (ping ∷ (end_at k h s.mesh).past) pong }
    u_is =
        printed pong (ping ∷ (end_at k h s.mesh).past) (ap (λ (x : JointEnd). x.past) came.ends.here_is) refl
        ∙ ap (λ (x : State). record x { text = x.text ++ entry_line k h (ping ∷ (end_at k h s.mesh).past) pong }) came.rest

-- the stream that is open at an end
pub here_on : (limit k h : ℕ) (w : Option Frame) (stream : ℕ) (past : List Event) (e : JointEnd) → TellsEnd limit k h w past e → open_stream (journal k h past) ≡ Some stream →
    open_stream e.past ≡ Some stream
here_on limit k h w stream past e t on = ap open_stream t.journal_is ∙ on

pub some_same : {A : Type 0} (x y : A) → Some x ≡ Some y → x ≡ y
some_same x y is = cc

-- the datagram of the frame that waits was queued at a host
pub queued_here : (limit hosts k h stream slot i : ℕ) (f : Frame) (past : List Event) (s : State) (y : ScriptHost) → i ≡ k → k < length s.hosts →
    FrameWaits limit hosts k h stream f past s → TellsHost k (Appended k h (Read stream f (outcome.Slot slot)) ∷ past) y →
    HostsTell hosts (Appended k h (Read stream f (outcome.Slot slot)) ∷ past) (set s.hosts i y)
queued_here limit hosts k h stream slot i f past s y at within w told =
    let event : Event = Appended k h (Read stream f (outcome.Slot slot)) in
    subst (λ (n : ℕ). HostsTell hosts (event ∷ past) (set s.hosts n y)) (sym at)
    (hosts_replaced hosts k past (event ∷ past) s.hosts y within w.tells.hosts_are told
    (λ a x other t. untouched a event past x (λ same. absurd (other (sym same))) t))

-- the port of a slot became congested or free, or stayed as it was
pub tells_marked : (limit hosts h i port slot : ℕ) (past : List Event) (s : State) (y : ScriptHost) (text : List ℕ) → i ≡ h → h < length s.hosts →
    Tells limit hosts past s → TellsHost h (update_mark h port slot past) y → text ≡ lines (update_mark h port slot past) →
    Tells limit hosts (update_mark h port slot past) (record s { text = text; hosts = set s.hosts i y })
tells_marked limit hosts h i port slot past s y text at within told y_told text_is = record {
  limit_is = told.limit_is;
  count_is = told.count_is;
  text_is = text_is;
  hosts_are = subst (λ (n : ℕ). HostsTell hosts (update_mark h port slot past) (set s.hosts n y)) (sym at)
      (hosts_replaced hosts h past (update_mark h port slot past) s.hosts y within told.hosts_are y_told
      (λ a x other t. untouched_by_mark a h port slot past x (λ same. other (sym same)) t));
  ends_are = λ a b a_in b_in apart.
      end_still limit a b None past (update_mark h port slot past) (end_at a b s.mesh) (still a b) (told.ends_are a b a_in b_in apart);
  peers_are = λ a b a_in b_in p is.
      let t = told.peers_are a b a_in b_in p is in
      changed_either (λ (q : List Event). TellsPeer a b q p) was now_is change past t (record { map_is = t.map_is; version_is = t.version_is });
}
  where
    was : Bool
    was = is_marked h port past

    now_is : Bool
    now_is = congested_after (is_marked h port past) (queued h slot past) (receive_buffer h slot past)

    change : Event
    change = Marked h port (congested_after (is_marked h port past) (queued h slot past) (receive_buffer h slot past)) (queued h slot past) (receive_buffer h slot past)

    still : (a b : ℕ) → IsStill a b past (update_mark h port slot past)
    still a b = changed_either (λ (q : List Event). IsStill a b past q) was now_is change past (record { journal_same = refl; moved_same = refl })
        (record { journal_same = refl; moved_same = refl })

-- a journal has read no more maps than it has entries
few_maps : (j : List Entry) → maps_read j ≤ length j
few_maps [] = omega arith
few_maps (Read stream f o ∷ j) = go (is_map_outcome o) (few_maps j)
  where
    go : (b : Bool) → maps_read j ≤ length j → cond b (suc (maps_read j)) (maps_read j) ≤ suc (length j)
    go true few = omega (arith, few)
    go false few = omega (arith, few)
few_maps (Accept slot sport dport payload ∷ j) = omega (arith, few_maps j)
few_maps (Cancel slot target ∷ j) = omega (arith, few_maps j)
few_maps (Open stream ∷ j) = omega (arith, few_maps j)
few_maps (Pull stream f ∷ j) = omega (arith, few_maps j)
few_maps (Shut stream ∷ j) = omega (arith, few_maps j)
few_maps (Bad stream header cause ∷ j) = omega (arith, few_maps j)

-- the map that waits was kept
pub kept_here : (limit hosts k h stream at : ℕ) (f : Frame) (past : List Event) (s : State) (p q : PeerMap) → hosts ≤ 8 → k < hosts → h < hosts → length s.peers ≡ 64 → at ≡ 8 * k + h →
    FrameWaits limit hosts k h stream f past s → TellsPeer k h past p → q.map ≡ Some f.payload → q.version ≡ p.version + 1 →
    PeersTell hosts (Appended k h (Read stream f outcome.Map) ∷ past) (set s.peers at q)
kept_here limit hosts k h stream at f past s p q few k_in h_in size place_is w t map version =
    let event : Event = Appended k h (Read stream f outcome.Map) in
    let here = journal_here k h (Read stream f outcome.Map) past in
    subst (λ (n : ℕ). PeersTell hosts (event ∷ past) (set s.peers n q)) (sym place_is)
    (peers_replaced hosts k h past (event ∷ past) s.peers q few k_in h_in size w.tells.peers_are
    (record {
      map_is = map ∙ sym (ap last_map_read here);
      version_is = (let last = t.version_is in let more = ap maps_read here in omega (arith, version, last, more));
    })
    (λ a b x other u. let there = journal_there k h a b (Read stream f outcome.Map) past other in record {
      map_is = u.map_is ∙ sym (ap last_map_read there);
      version_is = u.version_is ∙ sym (ap maps_read there);
    }))

-- the versions that hosts keep are small
pub few_versions : (k h : ℕ) (past : List Event) (p : PeerMap) (e : JointEnd) → TellsPeer k h past p → e.past ≡ journal k h past → length e.past < 18446744073709551615 →
    p.version < 18446744073709551615
few_versions k h past p e t is small =
    let long = ap (λ (j : List Entry). length j) is in omega (arith, t.version_is, few_maps (journal k h past), long, small)

-- the reading after a step that left the ends as they were
pub read_after : {A : Type 0} (result : Result A Stop) (k h stream : ℕ) (slot : Option ℕ) (f : Frame) (o : Outcome) (mid s t : State) → mid ≡ s →
    outcome_here slot (end_at k h s.mesh) f ≡ o → (end_at k h s.mesh).waiting ≡ Some f → open_stream (end_at k h s.mesh).past ≡ Some stream →
    ((end_at k h mid.mesh).waiting ≡ Some f → open_stream (end_at k h mid.mesh).past ≡ Some stream →
    OnOk result (IsRead k h stream f (outcome_here slot (end_at k h mid.mesh) f) mid t)) →
    OnOk result (IsRead k h stream f o s t)
read_after result k h stream slot f o mid s t same is waits on came =
    subst (λ (x : Outcome). OnOk result (IsRead k h stream f x s t)) is
    ((subst (λ (m : State). (end_at k h m.mesh).waiting ≡ Some f → open_stream (end_at k h m.mesh).past ≡ Some stream →
    OnOk result (IsRead k h stream f (outcome_here slot (end_at k h m.mesh) f) m t)) same came) waits on)

-- a frame that was read and answered by a ping's pong
pub ping_is : (slot : Option ℕ) (e : JointEnd) (j : List Entry) (f : Frame) → e.past ≡ j → verdict_of j f.header ≡ verdict.Ping → outcome_here slot e f ≡ outcome.Ping
ping_is slot e j f past_is is = outcome_here_is slot e j f verdict.Ping past_is is

-- the verdict on the frame that waits
pub verdict_waits : (e : JointEnd) (j : List Entry) (f : Frame) (v : Verdict) (r : Option Verdict) → r ≡ option_map (λ (g : Frame). verdict_of e.past g.header) e.waiting →
    r ≡ Some v → e.waiting ≡ Some f → e.past ≡ j → verdict_of j f.header ≡ v
verdict_waits e j f v r is at waits past_is =
    some_same (verdict_of j f.header) v
    (ap (λ (l : List Entry). Some (verdict_of l f.header)) (sym past_is) ∙ ap (λ (w : Option Frame). option_map (λ (g : Frame). verdict_of e.past g.header) w) (sym waits)
    ∙ sym is ∙ at)

-- a frame that goes nowhere was read
pub read_unanswered : {A : Type 0} (limit hosts k h stream : ℕ) (f : Frame) (past : List Event) (s t : State) (result : Result A Stop) (v : Verdict) →
    (v ≡ verdict.Old) ⊎ ((v ≡ verdict.Void) ⊎ ((v ≡ verdict.AckOnly) ⊎ (v ≡ verdict.OddMap))) →
    h ≢ k → k < hosts → h < hosts → FrameWaits limit hosts k h stream f past s → verdict_of (journal k h past) f.header ≡ v →
    (IsOnlyPassed (outcome_here None (end_at k h s.mesh) f) → OnOk result (Tells limit hosts (Appended k h (Read stream f (outcome_here None (end_at k h s.mesh) f)) ∷ past) t)) →
    OnOk result (Tells limit hosts (read k h past) t)
read_unanswered limit hosts k h stream f past s t result v which apart k_in h_in w is told =
    subst (λ (p : List Event). OnOk result (Tells limit hosts p t)) (read_is limit hosts k h stream f past s w) (go which)
  where
    go : (v ≡ verdict.Old) ⊎ ((v ≡ verdict.Void) ⊎ ((v ≡ verdict.AckOnly) ⊎ (v ≡ verdict.OddMap))) → OnOk result (Tells limit hosts (read_on k h stream f past) t)
    go (inl e) = read_plainly limit hosts k h stream f past s t result verdict.Old outcome.Old apart k_in h_in w (is ∙ e) refl refl tt told
    go (inr (inl e)) = read_plainly limit hosts k h stream f past s t result verdict.Void outcome.Void apart k_in h_in w (is ∙ e) refl refl tt told
    go (inr (inr (inl e))) = read_plainly limit hosts k h stream f past s t result verdict.AckOnly outcome.AckOnly apart k_in h_in w (is ∙ e) refl refl tt told
    go (inr (inr (inr e))) = read_plainly limit hosts k h stream f past s t result verdict.OddMap outcome.OddMap apart k_in h_in w (is ∙ e) refl refl tt told
