-- What a world tells after a change of two ends.
use Rattle.std.proofs.Common.{◌≡◌, ◌≢◌, ℕ, ◌==◌, ◌&&◌, Bool, true, false, cond, Option, None, Result, Ok, Err, List, ◌∷◌, refl, sym, ◌∙◌, subst}
use Rattle.std.specs.Prelude.{OnOk}
use Rattle.std.proofs.lemmas.Bool.{and_left, and_right, cond-false, ne_eqb, and_from, eq-eqb, eqb-true, cond-true}
use Rattle.rds_wire.specs.declared.frame.Frame.{Frame}
use Rattle.rds_model.specs.declared.entry.Entry.{Entry}
use Rattle.rds_model.specs.Drained.{last_map_read}
use Rattle.rds_play_pair.specs.declared.error.PairError.{PairError}
use Rattle.rds_play_pair.specs.Ends.{JointEnd}
use Rattle.rds_play_mesh.specs.Ends.{ChangesPair, IsOtherPair, end_at}
use Rattle.rds_history.specs.Events.{Event, Appended}
use Rattle.rds_history.specs.Journals.{journal, maps_read}
use Rattle.rds_history.specs.Transcript.{lines}
use Rattle.rds_play_hosts.specs.declared.host.ScriptHost.{ScriptHost}
use Rattle.rds_play_hosts.specs.Elsewhere.{IsElsewhere}
use Rattle.rds_play_hosts.specs.HostLaws.{untouched}
use Rattle.rds_play_world.specs.declared.peer_map.PeerMap.{PeerMap}
use Rattle.rds_play_world.specs.declared.stop.Stop.{Stop}
use Rattle.rds_play_world.specs.Readiness.{or_memory}
use Rattle.rds_play_world.specs.Telling.{HostsTell, PeersTell, State, TellsEnd, TellsPeer, TellsWaiting, Waiting, one_waits}
use Rattle.rds_play_world.proofs.Ends.{IsStill, ends_changed}

-- a step that went well did what it says
pub done_well : {A : Type 0} (P : Type 0) (r : Result A PairError) (tried : Result A Stop) (x : A) → tried ≡ or_memory r → tried ≡ Ok x → OnOk r P → P
done_well P (Ok y) tried x is ok done = done
done_well P (Err why) tried x is ok done = let no = sym is ∙ ok in cc

-- both ends of a pair, the hosts, what they know of one another, and the text tell the longer past
pub tells_changed : (v w : Waiting) (limit hosts h k : ℕ) (past later : List Event) (here there : JointEnd) (s t : State) →
    k ≢ h → s.mesh.count ≡ hosts → TellsWaiting v limit hosts past s → ChangesPair h k here there s.mesh t.mesh →
    TellsEnd limit h k (w h k) later here → TellsEnd limit k h (w k h) later there →
    ((a b : ℕ) → IsOtherPair h k a b hosts → IsStill a b past later) → ((a b : ℕ) → IsOtherPair h k a b hosts → w a b ≡ v a b) →
    HostsTell hosts later t.hosts → PeersTell hosts later t.peers → t.limit ≡ s.limit → t.count ≡ s.count → t.text ≡ lines later →
    TellsWaiting w limit hosts later t
tells_changed v w limit hosts h k past later here there s t apart count told changed here_told there_told still same hosts_told peers_told same_limit same_count text = record {
  limit_is = same_limit ∙ told.limit_is;
  count_is = same_count ∙ told.count_is;
  text_is = text;
  hosts_are = hosts_told;
  ends_are = ends_changed limit hosts h k v w past later here there s.mesh t.mesh count apart told.ends_are changed here_told there_told still same;
  peers_are = peers_told;
}

-- the same frames wait
pub tells_same_waiting : (v w : Waiting) (limit hosts : ℕ) (past : List Event) (s : State) → ((a b : ℕ) → w a b ≡ v a b) →
    TellsWaiting v limit hosts past s → TellsWaiting w limit hosts past s
tells_same_waiting v w limit hosts past s same told = record {
  limit_is = told.limit_is;
  count_is = told.count_is;
  text_is = told.text_is;
  hosts_are = told.hosts_are;
  ends_are = λ a b a_in b_in apart. subst (λ (f : Option Frame). TellsEnd limit a b f past (end_at a b s.mesh)) (sym (same a b)) (told.ends_are a b a_in b_in apart);
  peers_are = told.peers_are;
}

-- the frame waits at k, and at no other end
pub waits_here : (k h : ℕ) (f : Option Frame) → one_waits k h f k h ≡ f
waits_here k h f = cond-true (k == k && (h == h)) f None (and_from (k == k) (h == h) (eq-eqb k k refl) (eq-eqb h h refl))

pub waits_back : (k h : ℕ) (f : Option Frame) → h ≢ k → one_waits k h f h k ≡ None
waits_back k h f apart = cond-false (h == k && (k == h)) f None (and_left (h == k) (k == h) (ne_eqb h k apart))

pub waits_elsewhere : (k h a b : ℕ) (f : Option Frame) → (a ≡ k → b ≢ h) → one_waits k h f a b ≡ None
waits_elsewhere k h a b f apart = go (a == k) (b == h) refl refl
  where
    go : (x y : Bool) → (a == k) ≡ x → (b == h) ≡ y → cond (a == k && (b == h)) f None ≡ None
    go false y e g = cond-false (a == k && (b == h)) f None (and_left (a == k) (b == h) e)
    go true false e g = cond-false (a == k && (b == h)) f None (and_right (a == k) (b == h) g)
    go true true e g = absurd (apart (eqb-true a k e) (eqb-true b h g))

-- an entry that is no map
pub record IsNoMap (e : Entry) : Type 0 where
  pub last_same : (j : List Entry) → last_map_read (e ∷ j) ≡ last_map_read j
  pub count_same : (j : List Entry) → maps_read (e ∷ j) ≡ maps_read j

peer_same : (h k a b : ℕ) (e : Entry) (past : List Event) (p : PeerMap) → IsNoMap e → TellsPeer a b past p → TellsPeer a b (Appended h k e ∷ past) p
peer_same h k a b e past p none t =
    record { map_is = t.map_is ∙ sym (last_same (h == a && (k == b))); version_is = t.version_is ∙ sym (count_same (h == a && (k == b))) }
  where
    last_same : (here : Bool) → last_map_read (cond here (e ∷ journal a b past) (journal a b past)) ≡ last_map_read (journal a b past)
    last_same true = none.last_same (journal a b past)
    last_same false = refl

    count_same : (here : Bool) → maps_read (cond here (e ∷ journal a b past) (journal a b past)) ≡ maps_read (journal a b past)
    count_same true = none.count_same (journal a b past)
    count_same false = refl

-- what hosts know of one another stays
pub peers_no_map : (hosts h k : ℕ) (e : Entry) (past : List Event) (ps : List PeerMap) → IsNoMap e → PeersTell hosts past ps → PeersTell hosts (Appended h k e ∷ past) ps
peers_no_map hosts h k e past ps none each = λ a b a_in b_in p is. peer_same h k a b e past p none (each a b a_in b_in p is)

-- an event that is no host's
pub hosts_untouched : (hosts : ℕ) (event : Event) (past : List Event) (xs : List ScriptHost) → ((a : ℕ) → IsElsewhere a event) → HostsTell hosts past xs →
    HostsTell hosts (event ∷ past) xs
hosts_untouched hosts event past xs elsewhere each = λ a a_in x is. untouched a event past x (elsewhere a) (each a a_in x is)
