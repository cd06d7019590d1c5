-- What the fields of a world tell of a past. Source: this project's own.
use Rattle.std.specs.Prelude.{◌≡◌, ◌≢◌, ℕ, ◌==◌, ◌&&◌, ◌+◌, ◌*◌, ◌<◌, ◌≤◌, if◌then◌else◌, Option, Some, None, List, length, get_or, string_bytes}
use Rattle.rds_wire.specs.declared.frame.Frame.{Frame}
use Rattle.rds_model.specs.declared.entry.TheConstants.{MAX_SLOTS}
use Rattle.rds_model.specs.Past.{open_stream}
use Rattle.rds_model.specs.Streams.{written_bytes}
use Rattle.rds_model.specs.Drained.{last_map_read}
use Rattle.rds_text.specs.declared.host.TheConstants.{MAX_HOSTS}
use Rattle.rds_play_pair.specs.Ends.{JointEnd}
use Rattle.rds_play_mesh.specs.Ends.{MeshView, end_at}
use Rattle.rds_history.specs.Events.{Event}
use Rattle.rds_history.specs.Journals.{journal, moved_count, in_flight, maps_read}
use Rattle.rds_history.specs.Transcript.{lines}
use Rattle.rds_play_hosts.specs.declared.host.ScriptHost.{ScriptHost}
use Rattle.rds_play_hosts.specs.Telling.{TellsHost}
use Rattle.rds_play_world.specs.declared.peer_map.PeerMap.{PeerMap}
use Rattle.rds_play_world.specs.declared.world.World.{World}

-- The end of host h that faces k keeps the journal, and has in flight what the past says. `waiting` is the whole frame that
-- has come to it and that it didn't read.
pub record TellsEnd (limit h k : ℕ) (waiting : Option Frame) (past : List Event) (e : JointEnd) : Type 0 where
  pub slots_are : e.slots ≡ MAX_SLOTS
  pub journal_is : e.past ≡ journal h k past
  pub limit_is : e.limit ≡ limit
  pub waiting_is : e.waiting ≡ waiting
  pub flying_is : e.flying ≡ in_flight h k past
  pub within : (stream : ℕ) → open_stream (journal h k past) ≡ Some stream → moved_count h k past ≤ length (written_bytes stream (journal h k past))

-- host h knows the congestion map of k that it read last, and how many it read
pub record TellsPeer (h k : ℕ) (past : List Event) (p : PeerMap) : Type 0 where
  pub map_is : p.map ≡ last_map_read (journal h k past)
  pub version_is : p.version ≡ maps_read (journal h k past)

-- which frame has come whole to a host from a peer and wasn't read: none, or this one to host k from h
abbrev pub Waiting : Type 0
Waiting = (h k : ℕ) → Option Frame

abbrev pub none_waits : Waiting
none_waits h k = None

abbrev pub one_waits : (k h : ℕ) → Option Frame → Waiting
one_waits k h f a b = if a == k && (b == h) then f else None

-- each end, each host and each map of a peer tells the past
abbrev pub EndsTell : (limit hosts : ℕ) → Waiting → List Event → MeshView → Type 0
EndsTell limit hosts waiting past m =
    (h k : ℕ) → h < hosts → k < hosts → k ≢ h → TellsEnd limit h k (waiting h k) past (end_at h k m)

abbrev pub HostsTell : (hosts : ℕ) → List Event → List ScriptHost → Type 0
HostsTell hosts past xs = (h : ℕ) → h < hosts → (x : ScriptHost) → x ≡ get_or xs h x → TellsHost h past x

abbrev pub PeersTell : (hosts : ℕ) → List Event → List PeerMap → Type 0
PeersTell hosts past ps =
    (h k : ℕ) → h < hosts → k < hosts → (p : PeerMap) → p ≡ get_or ps (MAX_HOSTS * h + k) p → TellsPeer h k past p

-- what contracts see of a world: its limit, the number of its hosts, its text, the hosts, their connections, and what they
-- know of one another's congestion
pub record State : Type 0 where
  pub limit : ℕ
  pub count : ℕ
  pub text : List ℕ
  pub hosts : List ScriptHost
  pub mesh : MeshView
  pub peers : List PeerMap

abbrev pub state : World → State
state w = record {
  limit = w.limit;
  count = w.count;
  text = string_bytes w.text;
  hosts = w.hosts.items;
  mesh = w.mesh;
  peers = w.peers.items;
}

-- a world of so many hosts, whose journals may have so many entries, tells a past, where these frames wait to be read
pub record TellsWaiting (waiting : Waiting) (limit hosts : ℕ) (past : List Event) (s : State) : Type 0 where
  pub limit_is : s.limit ≡ limit
  pub count_is : s.count ≡ hosts
  pub text_is : s.text ≡ lines past
  pub hosts_are : HostsTell hosts past s.hosts
  pub ends_are : EndsTell limit hosts waiting past s.mesh
  pub peers_are : PeersTell hosts past s.peers

-- the same, where none waits, as it is between any two commands
abbrev pub Tells : (limit hosts : ℕ) (past : List Event) (s : State) → Type 0
Tells limit hosts past s = TellsWaiting none_waits limit hosts past s

-- the slots that an end may have are those that a host may have
abbrev pub HasSlots : MeshView → Type 0
HasSlots m = (h k : ℕ) → h < m.count → k < m.count → k ≢ h → (end_at h k m).slots ≡ MAX_SLOTS

-- a world tells some past, as each does that began empty and did commands
abbrev pub IsTelling : State → Type 0
IsTelling s = (limit : ℕ) × (hosts : ℕ) × (past : List Event) × Tells limit hosts past s
