-- What a world tells after an entry that moves no byte and brings none.
use Rattle.std.proofs.Common.{◌≡◌, ◌≢◌, ℕ, ◌<◌, ◌≤◌, ◌==◌, ◌&&◌, nat_lt, nat_le, Bool, true, false, cond, None, Result, Ok, Err, List, [], ◌∷◌, ◌++◌, length, refl, sym, ◌∙◌, ap, subst}
use Rattle.std.specs.Prelude.{OnOk}
use Rattle.std.proofs.lemmas.Bool.{and_from, cond-true, le-leb, lt-ltb}
use Rattle.rds_wire.specs.declared.kind.TheConstants.{MAX_LENGTH}
use Rattle.rds_model.specs.declared.entry.Entry.{Entry}
use Rattle.rds_model.specs.declared.entry.Entry.TheVariants.{Accept, Cancel}
use Rattle.rds_model.specs.declared.entry.Target.{Target}
use Rattle.rds_model.specs.declared.entry.TheConstants.{MAX_SLOTS}
use Rattle.rds_model.specs.declared.order.Order.{Order}
use Rattle.rds_model.specs.declared.order.Order.TheVariants as orders
use Rattle.rds_model.specs.Past.{accepted, open_stream}
use Rattle.rds_model.specs.Streams.{written_bytes}
use Rattle.rds_model.specs.Drained.{last_map_read}
use Rattle.rds_play_pair.specs.declared.error.PairError.{PairError}
use Rattle.rds_play_pair.specs.Changes.{entries_of, is_allowed}
use Rattle.rds_play_pair.specs.Ends.{JointEnd}
use Rattle.rds_play_pair.specs.Steps.{ordered}
use Rattle.rds_play_mesh.specs.Ends.{ChangesPair, MeshView, end_at}
use Rattle.rds_history.specs.Courses.{appends, if_room}
use Rattle.rds_history.specs.Events.{Event, Appended}
use Rattle.rds_history.specs.Journals.{journal, maps_read, moved_count}
use Rattle.rds_history.specs.Transcript.{entry_line}
use Rattle.rds_play_hosts.specs.Elsewhere.{delivers}
use Rattle.rds_play_hosts.specs.HostLaws.{untouched}
use Rattle.rds_play_world.specs.declared.stop.Stop.{Stop}
use Rattle.rds_play_world.specs.declared.peer_map.PeerMap.{PeerMap}
use Rattle.rds_play_world.specs.Coming.{Comes}
use Rattle.rds_play_world.specs.Readiness.{LacksMemory, or_memory}
use Rattle.rds_play_world.specs.Printing.{PrintsAlone}
use Rattle.rds_play_world.specs.Telling.{HasSlots, State, Tells, TellsEnd, TellsPeer, none_waits}
use Rattle.rds_play_world.proofs.Comings.{comes_made, comes_then}
use Rattle.rds_play_world.proofs.Ends.{appended_elsewhere, end_quiet, end_still, ends_changed}
use Rattle.rds_play_world.proofs.Replacing.{hosts_kept, peers_kept}

-- an entry that opens and shuts no stream, writes nothing, reads no map and delivers nothing
pub record IsQuiet (e : Entry) : Type 0 where
  pub stays : (j : List Entry) → open_stream (e ∷ j) ≡ open_stream j
  pub writes : (s : ℕ) (j : List Entry) → written_bytes s (e ∷ j) ≡ written_bytes s j
  pub moved : (h k : ℕ) (past : List Event) → moved_count h k (Appended h k e ∷ past) ≡ moved_count h k past
  pub map : (j : List Entry) → last_map_read (e ∷ j) ≡ last_map_read j
  pub maps : (j : List Entry) → maps_read (e ∷ j) ≡ maps_read j
  pub delivers_none : delivers e ≡ false

pub accept_quiet : (slot sport dport : ℕ) (payload : List ℕ) → IsQuiet (Accept slot sport dport payload)
accept_quiet slot sport dport payload = record {
  stays = λ j. refl;
  writes = λ s j. refl;
  moved = λ h k past. refl;
  map = λ j. refl;
  maps = λ j. refl;
  delivers_none = refl;
}

pub cancel_quiet : (slot : ℕ) (target : Target) → IsQuiet (Cancel slot target)
cancel_quiet slot target = record {
  stays = λ j. refl;
  writes = λ s j. refl;
  moved = λ h k past. refl;
  map = λ j. refl;
  maps = λ j. refl;
  delivers_none = refl;
}

-- what is so of a journal, with and without the entry
either_way : {X : Type 0} (f : List Entry → X) (e : Entry) (j : List Entry) → f (e ∷ j) ≡ f j → (b : Bool) → f (cond b (e ∷ j) j) ≡ f j
either_way f e j same true = same
either_way f e j same false = refl

peer_quiet : (a b h k : ℕ) (e : Entry) (past : List Event) (p : PeerMap) → IsQuiet e → TellsPeer a b past p → TellsPeer a b (Appended h k e ∷ past) p
peer_quiet a b h k e past p quiet t = record {
  map_is = t.map_is ∙ sym (either_way last_map_read e (journal a b past) (quiet.map (journal a b past)) (h == a && (k == b)));
  version_is = t.version_is ∙ sym (either_way maps_read e (journal a b past) (quiet.maps (journal a b past)) (h == a && (k == b)));
}

-- the world after the entry, whose line was printed
pub tells_quiet : (limit hosts h k : ℕ) (e : Entry) (past : List Event) (s : State) (m : MeshView) → s.mesh.count ≡ hosts → h < hosts → k < hosts → k ≢ h →
    IsQuiet e → Tells limit hosts past s →
    ChangesPair h k (record (end_at h k s.mesh) { past = e ∷ (end_at h k s.mesh).past }) (end_at k h s.mesh) s.mesh m →
    Tells limit hosts (Appended h k e ∷ past) (record s { mesh = m; text = s.text ++ entry_line h k (journal h k past) e })
tells_quiet limit hosts h k e past s m count h_in k_in apart quiet told changed = record {
  limit_is = told.limit_is;
  count_is = told.count_is;
  text_is = ap (λ (t : List ℕ). t ++ entry_line h k (journal h k past) e) told.text_is;
  hosts_are = hosts_kept hosts past later s.hosts told.hosts_are (λ a x t. untouched a (Appended h k e) past x (λ _. quiet.delivers_none) t);
  ends_are = ends_changed limit hosts h k none_waits none_waits past later (record here { past = e ∷ here.past }) there s.mesh m count apart told.ends_are changed
      (end_quiet limit h k None None e past here (record here { past = e ∷ here.past }) quiet.stays quiet.writes (quiet.moved h k past) here_told
      (ap (λ w. record here { past = e ∷ here.past; waiting = w }) here_told.waiting_is))
      (end_still limit k h None past later there (appended_elsewhere h k k h e past (λ x y. apart x)) (told.ends_are k h k_in h_in (λ x. apart (sym x))))
      (λ a b o. appended_elsewhere h k a b e past (λ x y. o.not_forth x y))
      (λ a b o. refl);
  peers_are = peers_kept hosts past later s.peers told.peers_are (λ a b p t. peer_quiet a b h k e past p quiet t);
}
  where
    later : List Event
    later = Appended h k e ∷ past

    here : JointEnd
    here = end_at h k s.mesh

    there : JointEnd
    there = end_at k h s.mesh

    here_told : TellsEnd limit h k None past here
    here_told = told.ends_are h k h_in k_in apart

-- an entry where there is room
pub comes_appended : {A B : Type 0} (limit hosts h k : ℕ) (e : Entry) (past : List Event) (x : A) (result : Result B Stop) (s t : State) →
    Comes limit hosts (if_room limit h k past) (Ok x) s →
    ((later : List Event) → Tells limit hosts later s → OnOk result (Tells limit hosts (Appended h k e ∷ later) t)) →
    LacksMemory result → Comes limit hosts (appends limit h k e past) result t
comes_appended {A} {B} limit hosts h k e past x result s t comes step lacks =
    comes_then none_waits none_waits limit hosts (if_room limit h k past) (λ before. Ok (Appended h k e ∷ before)) x result s t comes
    (λ later is told. comes_made B none_waits limit hosts (Appended h k e ∷ later) result t (step later told) lacks)

-- a world that tells a past has the slots
pub has_slots : (limit hosts : ℕ) (past : List Event) (s : State) → s.mesh.count ≡ hosts → Tells limit hosts past s → HasSlots s.mesh
has_slots limit hosts past s count told = λ h k h_in k_in apart.
    (told.ends_are h k (subst (λ n. h < n) count h_in) (subst (λ n. k < n) count k_in) apart).slots_are

-- an order that is allowed, and is one entry, was taken
taken : (o : Order) (e : Entry) (x : JointEnd) → x.slots ≡ MAX_SLOTS → is_allowed MAX_SLOTS o ≡ true → entries_of o ≡ e ∷ [] →
    ordered o x ≡ record x { past = e ∷ x.past }
taken o e x slots allowed entries =
    cond-true (is_allowed x.slots o) (record x { past = entries_of o ++ x.past }) x (ap (λ n. is_allowed n o) slots ∙ allowed)
    ∙ ap (λ (es : List Entry). record x { past = es ++ x.past }) entries

-- a step that went well did what it says
pub order_went : {A : Type 0} (P : Type 0) (r : Result A PairError) (tried : Result A Stop) (x : A) → tried ≡ or_memory r → tried ≡ Ok x → OnOk r P → P
order_went P (Ok y) tried x is ok done = done
order_went P (Err why) tried x is ok done = let no = sym is ∙ ok in cc

-- the world after an order that is one entry, whose line was printed
pub tells_ordered : (limit hosts h k : ℕ) (o : Order) (e : Entry) (past : List Event) (s : State) (m : MeshView) → s.mesh.count ≡ hosts → h < s.count → k < s.count → k ≢ h →
    IsQuiet e → is_allowed MAX_SLOTS o ≡ true → entries_of o ≡ e ∷ [] → Tells limit hosts past s →
    ChangesPair h k (ordered o (end_at h k s.mesh)) (end_at k h s.mesh) s.mesh m →
    Tells limit hosts (Appended h k e ∷ past) (record s { mesh = m; text = s.text ++ entry_line h k (journal h k past) e })
tells_ordered limit hosts h k o e past s m count h_in k_in apart quiet allowed entries told changed =
    let h_there : h < hosts = subst (λ n. h < n) told.count_is h_in in
    let k_there : k < hosts = subst (λ n. k < n) told.count_is k_in in
    let here_told = told.ends_are h k h_there k_there apart in
    tells_quiet limit hosts h k e past s m count h_there k_there apart quiet told
    (subst (λ (x : JointEnd). ChangesPair h k x (end_at k h s.mesh) s.mesh m) (taken o e (end_at h k s.mesh) here_told.slots_are allowed entries) changed)

-- the same of a datagram, whose line `print_newest` printed
pub tells_accepted : {B F : Type 0} (limit hosts h k slot sport dport : ℕ) (payload : List ℕ) (o : Order) (past : List Event) (s : State) (m : MeshView) (t : State) (last : Result B F) →
    s.mesh.count ≡ hosts → h < s.count → k < s.count → k ≢ h →
    o ≡ orders.Send slot sport dport payload → is_allowed MAX_SLOTS o ≡ true → Tells limit hosts past s →
    ChangesPair h k (ordered o (end_at h k s.mesh)) (end_at k h s.mesh) s.mesh m →
    OnOk last ((e : Entry) (before : List Entry) → (end_at h k m).past ≡ e ∷ before → PrintsAlone (accepted (e ∷ before)) before e →
    t ≡ record s { mesh = m; text = s.text ++ entry_line h k before e }) →
    OnOk last (Tells limit hosts (Appended h k (Accept slot sport dport payload) ∷ past) t)
tells_accepted limit hosts h k slot sport dport payload o past s m t (Err why) count h_in k_in apart is allowed told changed line = tt
tells_accepted limit hosts h k slot sport dport payload o past s m t (Ok x) count h_in k_in apart is allowed told changed line =
    let e : Entry = Accept slot sport dport payload in
    let here = end_at h k s.mesh in
    let h_there : h < hosts = subst (λ n. h < n) told.count_is h_in in
    let k_there : k < hosts = subst (λ n. k < n) told.count_is k_in in
    let here_told = told.ends_are h k h_there k_there apart in
    let entries : entries_of o ≡ e ∷ [] = ap entries_of is in
    let grown : (end_at h k m).past ≡ e ∷ here.past =
    ap (λ (x : JointEnd). x.past) (changed.here_is ∙ taken o e here here_told.slots_are allowed entries) in
    let printed : t ≡ record s { mesh = m; text = s.text ++ entry_line h k (journal h k past) e } =
    line e here.past grown refl ∙ ap (λ (j : List Entry). record s { mesh = m; text = s.text ++ entry_line h k j e }) here_told.journal_is in
    subst (λ (u : State). Tells limit hosts (Appended h k e ∷ past) u) (sym printed)
    (tells_ordered limit hosts h k o e past s m count h_in k_in apart (accept_quiet slot sport dport payload) allowed entries told changed)

-- a datagram that is short enough may be sent from a slot
pub send_allowed : (slot sport dport : ℕ) (payload : List ℕ) (o : Order) → o ≡ orders.Send slot sport dport payload → slot < MAX_SLOTS → length payload ≤ MAX_LENGTH →
    is_allowed MAX_SLOTS o ≡ true
send_allowed slot sport dport payload o is slot_in short =
    ap (is_allowed MAX_SLOTS) is
    ∙ and_from (nat_lt slot MAX_SLOTS) (nat_le (length payload) MAX_LENGTH) (lt-ltb slot MAX_SLOTS slot_in) (le-leb (length payload) MAX_LENGTH short)
