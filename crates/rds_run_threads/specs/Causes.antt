-- Why a run ended otherwise than well. Source: this project's own.
use Rattle.std.specs.Prelude.{◌≡◌, ◌≢◌, ◌⊎◌, ◌≤◌, ◌<◌, ◌+◌, ℕ, Bool, true, false, List, [], ◌∷◌, All, None, Some, length, slice_get, sum_by}
use Rattle.rds_fmap.specs.Readers.{ReaderView}
use Rattle.rds_model.specs.declared.entry.Entry.{Entry}
use Rattle.rds_model.specs.Alive.{alive_numbers}
use Rattle.rds_model.specs.Honest.{Begins}
use Rattle.rds_model.specs.Past.{newest_stream, open_stream}
use Rattle.rds_model.specs.Sums.{opens}
use Rattle.rds_text.specs.FinalState.{FinalHost, FinalJournal}
use Rattle.rds_text.specs.Hosts.{address_of}
use Rattle.rds_script.specs.declared.script.Placed.{Placed}
use Rattle.rds_socket_parts.specs.Lanes.{IsLaneAt, Lane}
use Rattle.rds_line_channel.specs.Carried.{shuts}
use Rattle.rds_line.specs.Keeps.{uncut}
use Rattle.rds_line.specs.Seats.{HasPulled}
use Rattle.rds_host_end.specs.Joined.{orders_of}
use Rattle.rds_run_callers.specs.Places.{Place, holding_of}
use Rattle.rds_run_rounds.specs.Causes.{refusals}
use Rattle.rds_run_rounds.specs.Grid.{peer_at}
use Rattle.rds_run_rounds.specs.Sound.{AreSoundJournals}
use Rattle.rds_run_hosts.specs.Obeyed.{HasDone}
use Rattle.rds_run_hosts.specs.Streams.{cuts_between, streams_between}
use Rattle.rds_run_threads.specs.Outcome.{IsFilled}

-- each stream that the journal opened is among those that were to be prepared, of which there are so many
abbrev pub OpenedAmong : (count : ℕ) → List Entry → Type 0
OpenedAmong count past = All (λ stream. stream ≤ count) (opens past)

-- for each of these slots the orders that stand in a journal begin those that were put on the slot's route at this place
abbrev pub BeginsOrdersAt : (place : ℕ) → List Place → List Entry → Type 0
BeginsOrdersAt place places past = (slot : ℕ) (p : Place) (lane : Lane ReaderView) → slice_get places slot ≡ Some p → IsLaneAt (holding_of p).routes place lane →
    Begins (orders_of slot past) (uncut lane.pass.put)

-- and so they begin those that a host's slots put on their routes to a peer
abbrev pub BeginsOrders : (host peer : ℕ) → List Place → List Entry → Type 0
BeginsOrders host peer places past = (place : ℕ) → peer_at host place ≡ peer → BeginsOrdersAt place places past

-- The journal of one of so many hosts with a peer is of the script's commands: from slots that were new the host's caller did exactly its own
-- commands, and for each slot the orders that stand in the journal begin those that its socket put on the route to that peer, in order and
-- each once. No order of another slot stands in it.
pub record IsOfCommands (hosts host peer : ℕ) (commands : List Placed) (past : List Entry) : Type 0 where
  pub last : List Place
  pub done : HasDone hosts host commands last
  pub sent : BeginsOrders host peer last past
  pub none_else : (slot : ℕ) → length last ≤ slot → orders_of slot past ≡ []

-- One of so many hosts did its commands, and in this journal of it with a peer a map with a port was pulled only where the journal delivered more
-- bytes to a slot, and a datagram at that port among them, than the receive buffer of the bind of that slot.
abbrev pub IsFilledAlone : (hosts host peer : ℕ) → List Placed → List Entry → Type 0
IsFilledAlone hosts host peer commands past = (last : List Place) × (done : HasDone hosts host commands last)
    × ((port : ℕ) → port < 65536 → HasPulled port past → IsFilled host commands done.first last (record { peer = address_of peer; past = past } ∷ []) port)

-- The journal has no stream left: none is open in it, and the other journal of the connection opened none that it didn't open before.
pub record HasNoneLeft (own other : List Entry) : Type 0 where
  pub closed : open_stream own ≡ None
  pub all : Begins (opens other) (opens own)

-- Two hosts should have a stream left, by the journal of one of them and that of the other: always over ends that tell their bytes; else where
-- the journal opened fewer streams than were to be prepared between the two, or where it shut more than there are cuts between the two among
-- the commands and headers that the other journal refused.
abbrev pub ShouldHaveOne : (tells : Bool) (low high : ℕ) → List Placed → (own other : List Entry) → Type 0
ShouldHaveOne tells low high commands own other =
    (tells ≡ true) ⊎ ((length (opens own) < streams_between low high commands) ⊎ (cuts_between low high commands + refusals other < shuts own))

-- the journal of one of two hosts has no stream left, and the two should have one
pub record MissesOne (tells : Bool) (low high : ℕ) (commands : List Placed) (own other : List Entry) : Type 0 where
  pub none_left : HasNoneLeft own other
  pub should : ShouldHaveOne tells low high commands own other

-- Two hosts of so many, the lower one first, lack a stream. Their journals are sound and of the script's commands, neither opened a stream that
-- wasn't to be prepared for these, and one of them has none left though the two should have one. Where there are no other hosts, each pulled a
-- map with a port only where it delivered more than a receive buffer holds. The lower host's journal opened this stream last, or none where it
-- is 0.
pub record AreLackingStream (tells : Bool) (hosts : ℕ) (commands : List Placed) (low high stream : ℕ) (own other : List Entry) : Type 0 where
  pub ordered : low < high
  pub known : high < hosts
  pub sound : AreSoundJournals tells own other
  pub own_opened : OpenedAmong (streams_between low high commands) own
  pub other_opened : OpenedAmong (streams_between low high commands) other
  pub own_sent : IsOfCommands hosts low high commands own
  pub other_sent : IsOfCommands hosts high low commands other
  pub own_filled : hosts ≡ 2 → IsFilledAlone hosts low high commands own
  pub other_filled : hosts ≡ 2 → IsFilledAlone hosts high low commands other
  pub lacks : MissesOne tells low high commands own other ⊎ MissesOne tells low high commands other own
  pub newest : stream ≡ newest_stream own

-- how many numbers are alive in the journals of hosts
abbrev pub alive_in_side : FinalJournal → ℕ
alive_in_side side = length (alive_numbers side.past)

abbrev pub alive_in_end : FinalHost → ℕ
alive_in_end end = sum_by alive_in_side end.sides

abbrev pub alive_in_ends : List FinalHost → ℕ
alive_in_ends ends = sum_by alive_in_end ends

-- so many datagrams aren't acknowledged, at least one, and the ends of streams don't tell their bytes
pub record AreUnacknowledged (tells : Bool) (count : ℕ) (ends : List FinalHost) : Type 0 where
  pub untold : tells ≡ false
  pub some : 1 ≤ count
  pub all : count ≡ alive_in_ends ends

-- The journal of a host with a peer, two of so many hosts, is full: it has so many entries, which are within the limit, and two more would
-- pass it. It and the one of the peer with the host are sound and of the script's commands, and neither opened more streams than were to be
-- prepared for these. Where there are no other hosts, each pulled a map with a port only where it delivered more than a receive buffer holds.
pub record IsFullJournal (tells : Bool) (limit hosts : ℕ) (commands : List Placed) (host peer entries : ℕ) (own other : List Entry) : Type 0 where
  pub host_known : host < hosts
  pub peer_known : peer < hosts
  pub apart : peer ≢ host
  pub count : length own ≡ entries
  pub few : entries ≤ limit
  pub most : limit < entries + 2
  pub sound : AreSoundJournals tells own other
  pub own_opened : OpenedAmong (streams_between host peer commands) own
  pub other_opened : OpenedAmong (streams_between host peer commands) other
  pub own_sent : IsOfCommands hosts host peer commands own
  pub other_sent : IsOfCommands hosts peer host commands other
  pub own_filled : hosts ≡ 2 → IsFilledAlone hosts host peer commands own
  pub other_filled : hosts ≡ 2 → IsFilledAlone hosts peer host commands other
