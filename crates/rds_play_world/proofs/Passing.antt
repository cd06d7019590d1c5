-- A world after a frame that waits was read.
use Rattle.std.proofs.Common.{◌≡◌, ◌≢◌, ℕ, ◌<◌, ◌==◌, ◌&&◌, Bool, true, false, cond, Option, Some, None, Result, Ok, Err, List, [], ◌∷◌, ◌++◌, length, take, refl, sym, ◌∙◌, ap, subst, arith}
use Rattle.std.specs.Prelude.{OnOk, nat_lt}
use Rattle.std.specs.Option.{option_map_or}
use Rattle.std.proofs.lemmas.Bool.{cond-true, eqb-true, lt-ltb}
use Rattle.std.proofs.lemmas.List.{take_all}
use Rattle.rds_wire.specs.declared.frame.Frame.{Frame}
use Rattle.rds_wire.specs.declared.header.Header.{Header}
use Rattle.rds_wire.specs.declared.header.TheConstants.{CONG_BITMAP}
use Rattle.rds_wire.specs.declared.kind.Kind.{Kind}
use Rattle.rds_wire.specs.declared.kind.Kind.TheVariants.{Data, Ack, Map, OddMap}
use Rattle.rds_wire.specs.declared.kind.TheConstants.{MAP_LENGTH}
use Rattle.rds_wire.specs.Kinds.{carries, kind_of}
use Rattle.rds_model.specs.declared.entry.Entry.{Entry}
use Rattle.rds_model.specs.declared.entry.Entry.TheVariants.{Accept, Cancel, Open, Pull, Read, Shut, Bad}
use Rattle.rds_model.specs.declared.entry.Outcome.{Outcome}
use Rattle.rds_model.specs.declared.entry.Outcome.TheVariants as outcome
use Rattle.rds_model.specs.declared.entry.Verdict.{Verdict}
use Rattle.rds_model.specs.declared.entry.Verdict.TheVariants as verdict
use Rattle.rds_model.specs.declared.entry.TheConstants.{MAX_SLOTS}
use Rattle.rds_model.specs.Past.{now, accepted, open_stream}
use Rattle.rds_model.specs.Legal.{IsLegal, pong_for}
use Rattle.rds_model.specs.LegalityLaws.{lawful_pull}
use Rattle.rds_model.specs.Reading.{is_old, verdict_of, verdict_of_kind, verdict_of_ports}
use Rattle.rds_model.specs.Sums.{last_pulled_frame}
use Rattle.rds_conn.specs.declared.conn.Found.TheVariants as found
use Rattle.rds_conn.specs.Passing.{delivery_of, outcome_of}
use Rattle.rds_play_pair.specs.Changes.{found_for, pong_entries}
use Rattle.rds_play_pair.specs.Ends.{JointEnd}
use Rattle.rds_play_pair.specs.Steps.{passed, passed_from, read_as}
use Rattle.rds_play_mesh.specs.Ends.{ChangesPair, MeshView, end_at}
use Rattle.rds_history.specs.Events.{Event, Appended}
use Rattle.rds_history.specs.Journals.{journal}
use Rattle.rds_history.specs.PullAndRead.{answer, outcome_at, read, read_on}
use Rattle.rds_history.specs.Transcript.{entry_line, lines}
use Rattle.rds_play_hosts.specs.declared.host.ScriptHost.{ScriptHost}
use Rattle.rds_play_world.specs.declared.peer_map.PeerMap.{PeerMap}
use Rattle.rds_play_world.specs.Happening.{FrameWaits, IsRead, outcome_here}
use Rattle.rds_play_world.specs.Printing.{PrintsAlone}
use Rattle.rds_play_world.specs.Telling.{HostsTell, PeersTell, State, Tells, TellsEnd, none_waits, one_waits}
use Rattle.rds_play_world.proofs.Ends.{appended_elsewhere, end_quiet, end_still}
use Rattle.rds_play_world.proofs.Changing.{tells_changed, waits_back, waits_elsewhere, waits_here}

-- what follows where a call went well
pub ok_then : {A E : Type 0} (r : Result A E) (P Q : Type 0) → (P → Q) → OnOk r P → OnOk r Q
ok_then (Ok x) P Q step p = step p
ok_then (Err why) P Q step p = tt

pub ok_both : {A E : Type 0} (r : Result A E) (P Q R : Type 0) → (P → Q → R) → OnOk r P → OnOk r Q → OnOk r R
ok_both (Ok x) P Q R step p q = step p q
ok_both (Err why) P Q R step p q = tt

-- the first bytes are all
pub chunk_is : (xs ys p : List ℕ) → xs ≡ p → length p ≡ 8192 → ys ≡ take 8192 xs → ys ≡ p
chunk_is xs ys p is long front = front ∙ ap (λ (l : List ℕ). take 8192 l) is ∙ take_all 8192 p (omega (arith, long))

-- a datagram is delivered to the port that its header names
pub port_is : (past : List Entry) (hd : Header) (port : ℕ) → verdict_of past hd ≡ verdict.Deliver port → hd.dport ≡ port
port_is past hd port is = go (kind_of hd) is
  where
    ports : (a b : Bool) → cond a (cond b verdict.Void verdict.Ping) (verdict.Deliver hd.dport) ≡ verdict.Deliver port → hd.dport ≡ port
    ports true true e = cc
    ports true false e = cc
    ports false b e = cc

    numbered : (old : Bool) → cond old verdict.Old (verdict_of_ports hd.sport hd.dport) ≡ verdict.Deliver port → hd.dport ≡ port
    numbered true e = cc
    numbered false e = ports (hd.dport == 0) (hd.sport == 0) e

    go : (k : Kind) → verdict_of_kind k past hd ≡ verdict.Deliver port → hd.dport ≡ port
    go Map e = cc
    go OddMap e = cc
    go Ack e = cc
    go Data e = numbered (is_old past hd) e

-- a map has the bytes of one
pub map_long : (past : List Entry) (hd : Header) → verdict_of past hd ≡ verdict.Map → hd.len ≡ MAP_LENGTH
map_long past hd is = go (kind_of hd) refl is
  where
    long : (a b c : Bool) → (hd.len == MAP_LENGTH) ≡ b → cond a (cond b Map OddMap) (cond c Ack Data) ≡ Map → hd.len ≡ MAP_LENGTH
    long true true c at e = eqb-true hd.len MAP_LENGTH at
    long true false c at e = cc
    long false b true at e = cc
    long false b false at e = cc

    ports : (a b : Bool) → cond a (cond b verdict.Void verdict.Ping) (verdict.Deliver hd.dport) ≡ verdict.Map → ⊥
    ports true true e = cc
    ports true false e = cc
    ports false b e = cc

    numbered : (old : Bool) → cond old verdict.Old (verdict_of_ports hd.sport hd.dport) ≡ verdict.Map → ⊥
    numbered true e = cc
    numbered false e = ports (hd.dport == 0) (hd.sport == 0) e

    go : (k : Kind) → kind_of hd ≡ k → verdict_of_kind k past hd ≡ verdict.Map → hd.len ≡ MAP_LENGTH
    go Map at e = long (carries CONG_BITMAP hd.flags) (hd.len == MAP_LENGTH) (hd.sequence == 0 && (hd.len == 0 && (hd.dport == 0))) refl at
    go OddMap at e = cc
    go Ack at e = cc
    go Data at e = absurd (numbered (is_old past hd) e)

-- the frame that was pulled last has as many bytes as its header says
pub pulled_whole : (j : List Entry) (f : Frame) → IsLegal j → last_pulled_frame j ≡ Some f → length f.payload ≡ f.header.len
pulled_whole [] f legal is = cc
pulled_whole (Pull stream g ∷ j) f legal is =
    let same : g ≡ f = cc in
    subst (λ (x : Frame). length x.payload ≡ x.header.len) same (lawful_pull stream g legal now).whole
pulled_whole (Accept slot sport dport payload ∷ j) f legal is = pulled_whole j f legal.1 is
pulled_whole (Cancel slot target ∷ j) f legal is = pulled_whole j f legal.1 is
pulled_whole (Open stream ∷ j) f legal is = pulled_whole j f legal.1 is
pulled_whole (Read stream g o ∷ j) f legal is = pulled_whole j f legal.1 is
pulled_whole (Shut stream ∷ j) f legal is = pulled_whole j f legal.1 is
pulled_whole (Bad stream header cause ∷ j) f legal is = pulled_whole j f legal.1 is

-- what the frame that waits is read as
pub read_is : (limit hosts k h stream : ℕ) (f : Frame) (past : List Event) (s : State) → FrameWaits limit hosts k h stream f past s →
    read_on k h stream f past ≡ read k h past
read_is limit hosts k h stream f past s w =
    sym (ap (λ (o : Option ℕ). option_map_or (λ z. option_map_or (λ g. read_on k h z g past) (last_pulled_frame (journal h k past)) past) o past) w.on
    ∙ ap (λ (o : Option Frame). option_map_or (λ g. read_on k h stream g past) o past) w.newest)

pub read_on_as : (k h stream : ℕ) (f : Frame) (past : List Event) (v : Verdict) (o : Outcome) → verdict_of (journal k h past) f.header ≡ v → outcome_at k v past ≡ o →
    answer k h f o (Appended k h (Read stream f o) ∷ past) ≡ read_on k h stream f past
read_on_as k h stream f past v o is became =
    sym (ap (λ (x : Outcome). answer k h f x (Appended k h (Read stream f x) ∷ past)) (ap (λ (x : Verdict). outcome_at k x past) is ∙ became))

-- what becomes of it at the end
pub outcome_here_is : (slot : Option ℕ) (e : JointEnd) (j : List Entry) (f : Frame) (v : Verdict) → e.past ≡ j → verdict_of j f.header ≡ v →
    outcome_here slot e f ≡ outcome_of v (found_for e.slots slot v)
outcome_here_is slot e j f v past_is is =
    ap (λ (x : Verdict). outcome_of x (found_for e.slots slot x)) (ap (λ (l : List Entry). verdict_of l f.header) past_is ∙ is)

-- the end where the frame waits
pub end_waits : (limit hosts k h stream : ℕ) (f : Frame) (past : List Event) (s : State) → k < hosts → h < hosts → h ≢ k → FrameWaits limit hosts k h stream f past s →
    TellsEnd limit k h (Some f) past (end_at k h s.mesh)
end_waits limit hosts k h stream f past s k_in h_in apart w =
    subst (λ (x : Option Frame). TellsEnd limit k h x past (end_at k h s.mesh)) (waits_here k h (Some f)) (w.tells.ends_are k h k_in h_in apart)

-- the frame that waits was passed, and its line printed
pub passed_read : (h k stream first : ℕ) (slot : Option ℕ) (f : Frame) (s : State) (m : MeshView) (text : List ℕ) →
    (end_at h k s.mesh).waiting ≡ Some f → open_stream (end_at h k s.mesh).past ≡ Some stream →
    ChangesPair h k (passed slot (end_at h k s.mesh)) (end_at k h s.mesh) s.mesh m → first ≡ length (end_at h k s.mesh).past →
    ((e : Entry) (before after : List Entry) → (end_at h k m).past ≡ after ++ e ∷ before → first ≡ length before →
    PrintsAlone (accepted (end_at h k m).past) before e → text ≡ s.text ++ entry_line h k before e) →
    IsRead h k stream f (outcome_here slot (end_at h k s.mesh) f) s (record s { mesh = m; text = text })
passed_read h k stream first slot f s m text waits on changed first_is printed =
    let e = end_at h k s.mesh in
    let o = outcome_here slot e f in
    let is : passed slot e ≡ read_as stream f o e =
    ap (λ (x : Option ℕ). passed_from x e.waiting slot e) on ∙ ap (λ (x : Option Frame). passed_from (Some stream) x slot e) waits in
    let line : text ≡ s.text ++ entry_line h k e.past (Read stream f o) =
    printed (Read stream f o) e.past (pong_entries (pong_for o f.header.sport)) (ap (λ (x : JointEnd). x.past) (changed.here_is ∙ is)) first_is tt in
    record {
      ends = subst (λ (x : JointEnd). ChangesPair h k x (end_at k h s.mesh) s.mesh m) is changed;
      rest = ap (λ (l : List ℕ). record s { mesh = m; text = l }) line;
    }

-- a datagram to the socket of a slot
pub delivered_here : (limit hosts k h stream port slot : ℕ) (f : Frame) (past : List Event) (s : State) → k < hosts → h < hosts → h ≢ k →
    FrameWaits limit hosts k h stream f past s → verdict_of (journal k h past) f.header ≡ verdict.Deliver port → slot < MAX_SLOTS →
    outcome_here (Some slot) (end_at k h s.mesh) f ≡ outcome.Slot slot
delivered_here limit hosts k h stream port slot f past s k_in h_in apart w is small =
    let t = end_waits limit hosts k h stream f past s k_in h_in apart w in
    let e = end_at k h s.mesh in
    outcome_here_is (Some slot) e (journal k h past) f (verdict.Deliver port) t.journal_is is
    ∙ ap delivery_of (cond-true (nat_lt slot e.slots) (found.Slot slot) found.NoSocket (lt-ltb slot e.slots (omega (arith, t.slots_are, small))))

-- a frame was read that no pong answers
pub tells_read : (limit hosts k h stream : ℕ) (f : Frame) (o : Outcome) (past : List Event) (s : State) (xs : List ScriptHost) (ps : List PeerMap) (t : State) →
    h ≢ k → s.mesh.count ≡ hosts → k < hosts → h < hosts → FrameWaits limit hosts k h stream f past s →
    IsRead k h stream f o (record s { hosts = xs; peers = ps }) t → pong_for o f.header.sport ≡ None →
    HostsTell hosts (Appended k h (Read stream f o) ∷ past) xs → PeersTell hosts (Appended k h (Read stream f o) ∷ past) ps →
    Tells limit hosts (Appended k h (Read stream f o) ∷ past) t
tells_read limit hosts k h stream f o past s xs ps t apart count k_in h_in w came none hosts_told peers_told =
    subst (Tells limit hosts (Appended k h (Read stream f o) ∷ past)) (sym came.rest)
    (tells_changed (one_waits k h (Some f)) none_waits limit hosts k h past (Appended k h (Read stream f o) ∷ past) (read_as stream f o (end_at k h s.mesh)) (end_at h k s.mesh) s
    (record s { hosts = xs; peers = ps; mesh = t.mesh; text = s.text ++ entry_line k h (end_at k h s.mesh).past (Read stream f o) })
    apart count w.tells came.ends
    (end_quiet limit k h (Some f) None (Read stream f o) past (end_at k h s.mesh) (read_as stream f o (end_at k h s.mesh)) (λ j. refl) (λ z j. refl) refl here
    (ap (λ (p : Option ℕ). record (end_at k h s.mesh) { past = pong_entries p ++ Read stream f o ∷ (end_at k h s.mesh).past; waiting = None }) none))
    (end_still limit h k None past (Appended k h (Read stream f o) ∷ past) (end_at h k s.mesh) (appended_elsewhere k h h k (Read stream f o) past (λ x y. apart x)) there)
    (λ a b other. appended_elsewhere k h a b (Read stream f o) past (λ x y. other.not_forth x y))
    (λ a b other. sym (waits_elsewhere k h a b (Some f) (λ x. other.not_forth x)))
    hosts_told peers_told refl refl
    (ap (λ (l : List ℕ). l ++ entry_line k h (end_at k h s.mesh).past (Read stream f o)) w.tells.text_is
    ∙ ap (λ (l : List Entry). lines past ++ entry_line k h l (Read stream f o)) here.journal_is))
  where
    here : TellsEnd limit k h (Some f) past (end_at k h s.mesh)
    here = end_waits limit hosts k h stream f past s k_in h_in apart w

    there : TellsEnd limit h k None past (end_at h k s.mesh)
    there = subst (λ (x : Option Frame). TellsEnd limit h k x past (end_at h k s.mesh)) (waits_back k h (Some f) apart) (w.tells.ends_are h k h_in k_in (λ e. apart (sym e)))
