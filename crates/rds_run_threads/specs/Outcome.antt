-- What came of what the callers of a run did. Source: this project's own.
use Rattle.std.specs.Prelude.{◌≡◌, ◌≢◌, ◌⊎◌, ◌<◌, ◌≤◌, ℕ, ◌==◌, ◌&&◌, Bool, false, List, [], ◌∷◌, ◌++◌, All, Contains, None, Some, filter, length, map, slice_get}
use Rattle.rds_wire.specs.declared.frame.Frame.{Frame}
use Rattle.rds_model.specs.declared.entry.Entry.TheVariants.{Read}
use Rattle.rds_model.specs.declared.entry.Outcome.TheVariants as outcome
use Rattle.rds_model.specs.declared.order.Datagram.{Datagram}
use Rattle.rds_seats.specs.Views.{total}
use Rattle.rds_fmap.specs.Readers.{ReaderView}
use Rattle.rds_socket_parts.specs.Lanes.{IsLaneAt, Lane}
use Rattle.rds_text.specs.FinalState.{FinalJournal, FinalSocket}
use Rattle.rds_text.specs.Hosts.{address_of}
use Rattle.rds_script.specs.declared.script.Command.{Command}
use Rattle.rds_script.specs.declared.script.Command.TheVariants.{Bind, BindAny, Cut}
use Rattle.rds_script.specs.declared.script.Placed.{Placed}
use Rattle.rds_line.specs.Keeps.{uncut}
use Rattle.rds_line.specs.Seats.{HasPulled}
use Rattle.rds_host_end.specs.Cuts.{HasShut}
use Rattle.rds_host_end.specs.Grounded.{HasDelivered}
use Rattle.rds_host_end.specs.Joined.{orders_of}
use Rattle.rds_host_end.specs.Shown.{HasLookedAt}
use Rattle.rds_model.specs.Deliveries.{put_bytes}
use Rattle.rds_model.specs.Honest.{Begins}
use Rattle.rds_model.specs.Past.{open_stream}
use Rattle.rds_model.specs.Sums.{maps}
use Rattle.rds_socket.specs.Holding.{Holding, Open}
use Rattle.rds_run_callers.specs.Doing.{IsDone}
use Rattle.rds_run_callers.specs.Ends.{used_name}
use Rattle.rds_run_callers.specs.Places.{Bound, Ended, Place, Spare, Vacant, holding_of, somes}
use Rattle.rds_run_hosts.specs.Obeyed.{HasDone, HasObeyed, after_binds, leading_binds}
use Rattle.rds_run_threads.specs.Reliable.{AllWentToSockets}

-- A socket that was open when its host's commands were done handed out what its receives gave, and after that all else that it got. One that
-- was closed before had handed out what its receives gave, and the rest is unread.
abbrev pub HandedOutAt : Place → FinalSocket → Type 0
HandedOutAt (Vacant h) s = ⊥
HandedOutAt (Bound o got) s = (s.unread ≡ []) × Begins got s.got
HandedOutAt (Ended port h got) s = s.got ≡ got
HandedOutAt (Spare h) s = ⊥

-- the slot and the port of a socket
abbrev pub socket_name : FinalSocket → ℕ × ℕ
socket_name s = (s.slot, s.port)

-- whether the command has the host cut its stream to the peer at this address
abbrev pub is_cut_to : (host peer : ℕ) → Command → Bool
is_cut_to host peer (Cut by to) = by == host && (address_of to == peer)
is_cut_to host peer _ = false

-- how many of the commands do
abbrev pub cuts_to : (host peer : ℕ) → List Placed → ℕ
cuts_to host peer commands = length (filter (λ (placed : Placed). is_cut_to host peer placed.command) commands)

-- no datagram that was sent to the port reached the host, by this journal, when no socket had the port
abbrev pub IsAlwaysFound : (port : ℕ) → FinalJournal → Type 0
IsAlwaysFound port side = (stream : ℕ) (f : Frame) → Contains side.past (Read stream f outcome.NoSocket) → f.header.dport ≢ port

-- The caller of a host did the binds that a script begins with, which left its slots so, and then its other commands. At the port of each socket
-- that was bound by then, and is open in the end, no datagram found no socket. No slot is bound twice, so it is the socket of that bind.
pub record AreLeadingFound (host : ℕ) (commands : List Placed) (first last : List Place) (sides : List FinalJournal) : Type 0 where
  pub led : List Place
  pub began : HasObeyed host (leading_binds commands) first led
  pub rest : HasObeyed host (after_binds commands) led last
  pub found : (slot : ℕ) (o q : Open ReaderView) (got more : List Datagram) → slice_get led slot ≡ Some (Bound o got) → slice_get last slot ≡ Some (Bound q more) →
      All (IsAlwaysFound o.port) sides

-- the command has the host bind a socket with this receive buffer
abbrev pub BindsWith : (host rcvbuf : ℕ) → Command → Type 0
BindsWith host rcvbuf (Bind by port sndbuf size) = (by ≡ host) × (size ≡ rcvbuf)
BindsWith host rcvbuf (BindAny by port sndbuf size) = (by ≡ host) × (size ≡ rcvbuf)
BindsWith host rcvbuf _ = ⊥

-- the slot of this number was vacant, and then it had a socket, which had handed out nothing
abbrev pub BindsAt : (slot : ℕ) → (old new : List Place) → Type 0
BindsAt slot old new = (place : ℕ) × (h : Holding ReaderView) × (o : Open ReaderView) × (slice_get old place ≡ Some (Vacant h)) × (h.words.slot ≡ slot)
    × (slice_get new place ≡ Some (Bound o []))

-- One of these commands bound the slot of this number with this receive buffer. The caller of the host did those before it, which left its slots
-- so, then this one, and then the others.
pub record BindsSlot (host slot rcvbuf : ℕ) (commands : List Placed) (first last : List Place) : Type 0 where
  pub before : List Placed
  pub placed : Placed
  pub after : List Placed
  pub order : commands ≡ before ++ placed ∷ after
  pub asks : BindsWith host rcvbuf placed.command
  pub left : List Place
  pub next : List Place
  pub began : HasObeyed host before first left
  pub did : IsDone placed.command left next
  pub rest : HasObeyed host after next last
  pub bound : BindsAt slot left next

-- One of these journals of a host delivered a datagram at this port to some slot, and all of them together delivered more bytes to that
-- slot than the receive buffer that its own bind asks for.
pub record IsFilled (host : ℕ) (commands : List Placed) (first last : List Place) (sides : List FinalJournal) (port : ℕ) : Type 0 where
  pub slot : ℕ
  pub place : ℕ
  pub side : FinalJournal
  pub stands : slice_get sides place ≡ Some side
  pub delivered : HasDelivered port slot side.past
  pub rcvbuf : ℕ
  pub asked : BindsSlot host slot rcvbuf commands first last
  pub above : rcvbuf < total (λ (s : FinalJournal). put_bytes slot s.past) sides

-- What one of so many hosts, with these journals and these sockets, comes to did the script's commands: from slots that were new its caller did
-- exactly its own commands. In the journal with each other host stand, for each slot, exactly the orders that its socket put on the route to
-- that host, in order and each once. No order of another slot stands in a journal. Each look of a socket at a peer's congestion map found what
-- the map of its version has, among those that the journal with that peer read. Where a stream to a peer is open in the end, at least as many
-- were shut as the commands have the host cut. There is one socket of each slot that was bound, in order, with its port. Each datagram that a
-- journal delivered went to one of these sockets, that of the slot that it was delivered to, which had its port. At a port that a bind at the
-- beginning of the script took no datagram found no socket, where the socket of that bind is open in the end. A map with a port was pulled only
-- where more bytes were delivered to a slot, and a datagram at that port among them, than the receive buffer of one of the host's binds.
pub record IsOutcome (hosts host : ℕ) (commands : List Placed) (sides : List FinalJournal) (sockets : List FinalSocket) : Type 0 where
  pub last : List Place
  pub done : HasDone hosts host commands last
  pub sent : (slot place : ℕ) (p : Place) (lane : Lane ReaderView) (side : FinalJournal) → slice_get last slot ≡ Some p →
      IsLaneAt (holding_of p).routes place lane → slice_get sides place ≡ Some side → orders_of slot side.past ≡ uncut lane.pass.put
  pub none_else : All (λ (side : FinalJournal). (slot : ℕ) → length last ≤ slot → orders_of slot side.past ≡ []) sides
  pub looked : (slot place : ℕ) (p : Place) (lane : Lane ReaderView) (side : FinalJournal) → slice_get last slot ≡ Some p →
      IsLaneAt (holding_of p).routes place lane → slice_get sides place ≡ Some side → HasLookedAt (maps side.past) lane.reader
  pub cut : All (λ (side : FinalJournal). HasShut (cuts_to host side.peer commands) side.past ⊎ (open_stream side.past ≡ None)) sides
  pub filled : All (λ (side : FinalJournal). (port : ℕ) → port < 65536 → HasPulled port side.past →
      IsFilled host commands done.first last sides port) sides
  pub gone : All (AllWentToSockets sockets) sides
  pub found : AreLeadingFound host commands done.first last sides
  pub names : map socket_name sockets ≡ somes (map used_name last)
  pub handed : All (λ (s : FinalSocket). (p : Place) × (slice_get last s.slot ≡ Some p) × HandedOutAt p s) sockets
