-- What is left of the slots of a caller. This project's own.
use Rattle.std.specs.Prelude.{◌≡◌, ℕ, List, [], ◌++◌, All, Option, Some, None, length, map, slice_get}
use Rattle.rds_meter.specs.Shared.{HasStored}
use Rattle.rds_fmap.specs.Readers.{ReaderView}
use Rattle.rds_mail.specs.Learning.{AllGot}
use Rattle.rds_mail.specs.Numbers.{bare_items}
use Rattle.rds_socket_parts.specs.Lanes.{Ascend}
use Rattle.rds_socket_parts.specs.Ports.{HasClaimedOnly}
use Rattle.rds_model.specs.Honest.{Begins}
use Rattle.rds_text.specs.declared.final_state.Kept.{Kept}
use Rattle.rds_socket.specs.Holding.{Holding}
use Rattle.rds_run_callers.specs.Places.{Place, Vacant, Bound, Ended, Spare, PlaceKeeps, holding_of, somes}

-- each receive limit that the second has stored at the meter the first had stored
abbrev pub StoresNoMore : Holding ReaderView → Holding ReaderView → Type 0
StoresNoMore old new = (slot limit : ℕ) → HasStored slot limit new.words.seat.view → HasStored slot limit old.words.seat.view

-- the end of a slot: it is the same slot, no order was put since, no step was made at the port table, and no receive limit was stored
pub record IsEndOf (old new : Holding ReaderView) : Type 0 where
  pub keeps : PlaceKeeps old new
  pub routes : new.routes ≡ old.routes
  pub ports : new.ports ≡ old.ports
  pub stored : StoresNoMore old new

-- one end of each slot, in order
pub record AreEndsOf (places : List Place) (closed : List (Holding ReaderView)) : Type 0 where
  pub count : length closed ≡ length places
  pub each : (slot : ℕ) (p : Place) (h : Holding ReaderView) → slice_get places slot ≡ Some p → slice_get closed slot ≡ Some h → IsEndOf (holding_of p) h

-- the port that the socket of a slot had, if it had one
abbrev pub claimed_port : Place → Option ℕ
claimed_port (Vacant h) = None
claimed_port (Bound o got) = Some o.port
claimed_port (Ended port h got) = Some port
claimed_port (Spare h) = None

-- the port that the socket of a slot has, where it is open
abbrev pub open_port : Place → Option ℕ
open_port (Vacant h) = None
open_port (Bound o got) = Some o.port
open_port (Ended port h got) = None
open_port (Spare h) = None

-- the seat of a slot has claimed no port but that of its socket, and it holds it still where the socket is open
pub record HasItsPort (p : Place) (h : Holding ReaderView) : Type 0 where
  pub claimed : HasClaimedOnly (claimed_port p) h.ports.view
  pub holds : (port : ℕ) → open_port p ≡ Some port → h.ports.view.port ≡ Some port

-- so it is of the seat of each slot
abbrev pub HaveTheirPorts : List Place → List (Holding ReaderView) → Type 0
HaveTheirPorts places closed = (slot : ℕ) (p : Place) (h : Holding ReaderView) → slice_get places slot ≡ Some p → slice_get closed slot ≡ Some h → HasItsPort p h

-- the slot and the port of a place that had a socket
abbrev pub used_name : Place → Option (ℕ × ℕ)
used_name (Vacant h) = None
used_name (Bound o got) = Some (o.own.words.slot, o.port)
used_name (Ended port h got) = Some (h.words.slot, port)
used_name (Spare h) = None

abbrev pub kept_name : Kept → ℕ × ℕ
kept_name k = (k.slot, k.port)

-- what an open socket still held it handed out in the end, after all that it had handed out before; and what an ended one held is unread
abbrev pub UnreadFits : Place → Kept → Type 0
UnreadFits (Vacant h) k = ⊥
UnreadFits (Bound o got) k = (k.unread.items ≡ []) × Begins got k.got.items
UnreadFits (Ended port h got) k = k.got.items ≡ got
UnreadFits (Spare h) k = ⊥

-- what the socket of a place has: all that was taken from its mailbox, which was found empty
pub record TookAll (p : Place) (closed : Holding ReaderView) (k : Kept) : Type 0 where
  pub all : k.got.items ++ k.unread.items ≡ bare_items closed.inbox.get.got
  pub empty : AllGot closed.inbox.get
  pub unread : UnreadFits p k

-- what is kept of one place
abbrev pub HasLeft : Place → Holding ReaderView → Option Kept → Type 0
HasLeft p closed (Some k) = TookAll p closed k × (used_name p ≡ Some (kept_name k))
HasLeft p closed None = used_name p ≡ None

-- the place and the end of its slot are those of what was kept
abbrev pub IsLeft : List Place → List (Holding ReaderView) → Kept → Type 0
IsLeft places closed k = (p : Place) × (h : Holding ReaderView) × (slice_get places k.slot ≡ Some p) × (slice_get closed k.slot ≡ Some h) × TookAll p h k

-- one is kept of each place that had a socket, in order of the slots, which ascend, with all that its socket has
pub record AreLeft (places : List Place) (closed : List (Holding ReaderView)) (kept : List Kept) : Type 0 where
  pub names : map kept_name kept ≡ somes (map used_name places)
  pub ascend : Ascend (map (λ k. k.slot) kept)
  pub each : All (IsLeft places closed) kept
