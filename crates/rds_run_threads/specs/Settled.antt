-- Private: it serves the contracts of the private functions that end a host of a run. Source: this project's own.
use Rattle.std.specs.Prelude.{◌≡◌, ℕ, ◌<◌, ◌≤◌, All, IfOk, List, [], Result, Some, Vec, length, map, slice_get}
use Rattle.std.specs.Global.{Global}
use Rattle.rds_bindtab.specs.Seats.{telling_of}
use Rattle.rds_fmap.specs.Readers.{ReaderView, WriterView}
use Rattle.rds_model.specs.declared.order.Datagram.{Datagram}
use Rattle.rds_wire.specs.declared.memory.Memory.{Memory}
use Rattle.rds_socket.specs.Holding.{Holding, Open}
use Rattle.rds_socket_parts.specs.Lanes.{IsLaneAt, Lane}
use Rattle.rds_text.specs.FinalState.{FinalSocket}
use Rattle.rds_text.specs.Hosts.{address_of}
use Rattle.rds_text.specs.FinalViews.{host_view, side_view, socket_view}
use Rattle.rds_text.specs.declared.final_state.HostEnd.{HostEnd}
use Rattle.rds_text.specs.declared.final_state.Kept.{Kept}
use Rattle.rds_line_channel.specs.Streams.{numbers}
use Rattle.rds_line.specs.Keeps.{uncut}
use Rattle.rds_line.specs.Line.{LineView, line_past}
use Rattle.rds_line.specs.Seats.{WasAlwaysTold}
use Rattle.rds_host_end.specs.Cuts.{AreCutsDone, cuts_put}
use Rattle.rds_host_end.specs.Grounded.{AreMapsGrounded}
use Rattle.rds_host_end.specs.Joined.{orders_of}
use Rattle.rds_host_end.specs.Shown.{HasLookedAt}
use Rattle.rds_model.specs.Sums.{maps}
use Rattle.rds_host_end.specs.Sides.{line_side}
use Rattle.rds_run_callers.specs.Ends.{AreEndsOf, AreLeft, HaveTheirPorts, kept_name, used_name}
use Rattle.rds_run_callers.specs.Places.{Bound, CallerView, IsUsed, Place, holding_of, somes, spared}
use Rattle.rds_script.specs.declared.script.Placed.{Placed}
use Rattle.rds_run_hosts.specs.Obeyed.{HasDone}
use Rattle.rds_run_hosts.specs.Parties.{HasLed}
use Rattle.rds_run_threads.specs.Outcome.{HandedOutAt, IsAlwaysFound}
use Rattle.rds_run_threads.specs.Reliable.{AllWentToSockets, HasReceived}
use Rattle.rds_run_rounds.specs.Quiet.{AreQuiet}
use Rattle.rds_run_settling.specs.Tied.{AreLinesTold, AreSlotsTold, AreTied, LinesHear, PlacesHear, holdings}

-- The orders that stand in the journals of lines are, for each slot, exactly those that its socket has put. Where there are slots none is of
-- another one.
pub record AreAllSent {E : Type 0} (places : List Place) (lines : List (LineView E WriterView)) : Type 0 where
  pub each : (slot place : ℕ) (p : Place) (lane : Lane ReaderView) (line : LineView E WriterView) → slice_get places slot ≡ Some p →
      IsLaneAt (holding_of p).routes place lane → slice_get lines place ≡ Some line → orders_of slot (line_past line) ≡ uncut lane.pass.put
  pub none_else : 1 ≤ length places → (slot place : ℕ) (line : LineView E WriterView) → slice_get lines place ≡ Some line → length places ≤ slot →
      orders_of slot (line_past line) ≡ []

-- each look of a slot at a peer's congestion map found what the map of its version has, among those that the journal with that peer read
abbrev pub HaveAllLooked : {E : Type 0} → List Place → List (LineView E WriterView) → Type 0
HaveAllLooked {E} places lines = (slot place : ℕ) (p : Place) (lane : Lane ReaderView) (line : LineView E WriterView) → slice_get places slot ≡ Some p →
    IsLaneAt (holding_of p).routes place lane → slice_get lines place ≡ Some line → HasLookedAt (maps (line_past line)) lane.reader

-- the cuts that all slots together asked a line for were done, or it has used up the streams that it was given
abbrev pub AreAllCut : {E : Type 0} → List Place → List (LineView E WriterView) → Type 0
AreAllCut {E} places lines = (place : ℕ) (line : LineView E WriterView) → slice_get lines place ≡ Some line →
    AreCutsDone (cuts_put place (holdings places)) (numbers line.channel.streams.list) (line_past line)

-- each datagram that a line's journal delivered went to a socket that had its port
abbrev pub HaveAllGone : {E : Type 0} → List (LineView E WriterView) → List FinalSocket → Type 0
HaveAllGone {E} lines sockets = (place : ℕ) (line : LineView E WriterView) → slice_get lines place ≡ Some line → AllWentToSockets sockets (line_side line)

-- no line found a datagram without a socket that was sent to a port which an open socket has, and of which the line was always told
abbrev pub HaveAllFound : {E : Type 0} → List Place → List (LineView E WriterView) → Type 0
HaveAllFound {E} places lines = (slot place : ℕ) (o : Open ReaderView) (got : List Datagram) (line : LineView E WriterView) →
    slice_get places slot ≡ Some (Bound o got) → slice_get lines place ≡ Some line → WasAlwaysTold (telling_of o.own.ports.view) line.ports.view →
    IsAlwaysFound o.port (line_side line)

-- the caller of one of so many hosts did its commands, and the lines were told of the ports that the first binds took
pub record HasDoneLed {E : Type 0} (hosts host : ℕ) (commands : List Placed) (places : List Place) (lines : List (LineView E WriterView)) : Type 0 where
  pub done : HasDone hosts host commands places
  pub led : HasLed host commands done.first places lines

-- so it is of each host
abbrev pub HaveDoneLed : {E : Type 0} → (hosts : ℕ) → List Placed → List CallerView → List (List (LineView E WriterView)) → Type 0
HaveDoneLed {E} hosts commands callers rows = (host : ℕ) (caller : CallerView) (row : List (LineView E WriterView)) → slice_get callers host ≡ Some caller →
    slice_get rows host ≡ Some row → HasDoneLed hosts host commands caller.places row

-- so the caller did its commands, and then gave up the slots that no socket had
pub record HasDoneSpared {E : Type 0} (hosts host : ℕ) (commands : List Placed) (places : List Place) (lines : List (LineView E WriterView)) : Type 0 where
  pub last : List Place
  pub did : HasDoneLed hosts host commands last lines
  pub left : places ≡ map spared last

-- so it is of the caller of each of so many hosts
abbrev pub HaveDoneSpared : {E : Type 0} → (hosts : ℕ) → List Placed → List CallerView → List (List (LineView E WriterView)) → Type 0
HaveDoneSpared {E} hosts commands callers rows = (host : ℕ) (caller : CallerView) (row : List (LineView E WriterView)) → slice_get callers host ≡ Some caller →
    slice_get rows host ≡ Some row → HasDoneSpared hosts host commands caller.places row

-- what is kept of a host has one for each slot that was bound, with its port, and what it handed out
pub record AreKeptOf (places : List Place) (kept : List Kept) : Type 0 where
  pub names : map kept_name kept ≡ somes (map used_name places)
  pub handed : All (λ (k : Kept). (p : Place) × (slice_get places k.slot ≡ Some p) × HandedOutAt p (socket_view k)) kept

-- A host of a run that has ended: its slots and lines belong together, and each line was told of all orders that the slots have put for
-- it, and got them.
pub record HasSettled {E : Type 0} (places : List Place) (lines : List (LineView E WriterView)) : Type 0 where
  pub tied : AreTied places lines
  pub some : 1 ≤ length lines
  pub used : (slot : ℕ) (p : Place) → slice_get places slot ≡ Some p → IsUsed p
  pub told : AreLinesTold (holdings places) lines
  pub quiet : AreQuiet lines

-- A caller gave up the slots that no socket had, and the lines of its host were told of all orders that its slots have put for them. They
-- belong together still.
pub record IsToldOf {E : Type 0} (old new : List Place) (lines after : List (LineView E WriterView)) : Type 0 where
  pub places : new ≡ map spared old
  pub used : (slot : ℕ) (p : Place) → slice_get new slot ≡ Some p → IsUsed p
  pub told : AreLinesTold (holdings new) after
  pub hear : LinesHear lines after
  pub tied : AreTied new after

-- the hosts before this one were told so, and nothing changed of the others
pub record AreToldBelow {E : Type 0} (count : ℕ) (old new : List CallerView) (rows after : List (List (LineView E WriterView))) : Type 0 where
  pub caller_count : length new ≡ length old
  pub row_count : length after ≡ length rows
  pub told : (host : ℕ) (caller later : CallerView) (row heard : List (LineView E WriterView)) → host < count → slice_get old host ≡ Some caller →
      slice_get new host ≡ Some later → slice_get rows host ≡ Some row → slice_get after host ≡ Some heard → IsToldOf caller.places later.places row heard
  pub others : (host : ℕ) → count ≤ host → (slice_get new host ≡ slice_get old host) × (slice_get after host ≡ slice_get rows host)

-- A caller's slots were told of all datagrams that the lines of its host have put into their mailboxes. They belong together still.
pub record HasHeard {E : Type 0} (old new : List Place) (lines : List (LineView E WriterView)) : Type 0 where
  pub hear : PlacesHear old new
  pub told : AreSlotsTold (holdings new) lines
  pub tied : AreTied new lines

-- the slots of the hosts before this one were told so, and nothing changed of the others
pub record HaveHeardBelow {E : Type 0} (count : ℕ) (old new : List CallerView) (rows : List (List (LineView E WriterView))) : Type 0 where
  pub caller_count : length new ≡ length old
  pub heard : (host : ℕ) (caller later : CallerView) (row : List (LineView E WriterView)) → host < count → slice_get old host ≡ Some caller →
      slice_get new host ≡ Some later → slice_get rows host ≡ Some row → HasHeard caller.places later.places row
  pub others : (host : ℕ) → count ≤ host → slice_get new host ≡ slice_get old host

-- what is left of the slots of a caller: what each socket has, and the end of every slot, which has its socket's port
pub record HasEnded (places : List Place) (left : Vec Kept Global × Vec (Holding ReaderView) Global) : Type 0 where
  pub slots : AreEndsOf places left.1.items
  pub kept : AreLeft places left.1.items left.0.items
  pub ports : HaveTheirPorts places left.1.items

-- so it is of each caller that had memory for it
pub record HaveEnded (callers : List CallerView) (left : List (Result (Vec Kept Global × Vec (Holding ReaderView) Global) Memory)) : Type 0 where
  pub count : length left ≡ length callers
  pub each : (host : ℕ) (caller : CallerView) (one : Result (Vec Kept Global × Vec (Holding ReaderView) Global) Memory) → slice_get callers host ≡ Some caller →
      slice_get left host ≡ Some one → IfOk one (HasEnded caller.places)

-- each host of a run that has ended has settled
pub record HaveSettled {E : Type 0} (callers : List CallerView) (rows : List (List (LineView E WriterView))) : Type 0 where
  pub count : length callers ≡ length rows
  pub each : (host : ℕ) (caller : CallerView) (row : List (LineView E WriterView)) → slice_get callers host ≡ Some caller → slice_get rows host ≡ Some row →
      HasSettled caller.places row

-- what is left of a host with these slots and lines, once all that waits at its open sockets is received
pub record IsLeftOf {E : Type 0} (host : ℕ) (places : List Place) (lines : List (LineView E WriterView)) (end : HostEnd) : Type 0 where
  pub addr : end.addr ≡ address_of host
  pub journals : map side_view end.journals.items ≡ map line_side lines
  pub received : HasReceived (host_view end)
  pub sent : AreAllSent places lines
  pub looked : HaveAllLooked places lines
  pub cut : AreAllCut places lines
  pub grounded : AreMapsGrounded (holdings places) lines
  pub gone : HaveAllGone lines (map socket_view end.kept.items)
  pub found : HaveAllFound places lines
  pub kept : AreKeptOf places end.kept.items

-- so it is of each host
pub record AreLeftOf {E : Type 0} (callers : List CallerView) (rows : List (List (LineView E WriterView))) (ends : List HostEnd) : Type 0 where
  pub count : length ends ≡ length rows
  pub each : (host : ℕ) (caller : CallerView) (row : List (LineView E WriterView)) (end : HostEnd) → slice_get callers host ≡ Some caller →
      slice_get rows host ≡ Some row → slice_get ends host ≡ Some end → IsLeftOf host caller.places row end
