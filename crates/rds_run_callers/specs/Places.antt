-- What became of each slot of a caller. This project's own.
use Rattle.std.specs.Prelude.{◌≡◌, ◌≤◌, ℕ, List, [], ◌∷◌, length, map, Option, Some, None, slice_get}
use Rattle.rds_bindtab.specs.Seats.{PortSeat, knowing, note_of}
use Rattle.rds_model.specs.declared.order.Datagram.{Datagram}
use Rattle.rds_mail.specs.Numbers.{bare_items}
use Rattle.rds_mail.specs.Passes.{Putter, after_note}
use Rattle.rds_fmap.specs.Readers.{ReaderView, HasSeen}
use Rattle.rds_socket.specs.Holding.{Holding, Open}
use Rattle.rds_socket.specs.Stays as stays
use Rattle.rds_socket.specs.Calls.{with_own, with_inbox}

-- a slot that no socket had, a bound one and what its socket handed out, one whose socket had this port and has ended, and one that
-- was given up before any socket had it
pub data Place : Type 0 where
  Vacant : Holding ReaderView → Place
  Bound : Open ReaderView → List Datagram → Place
  Ended : ℕ → Holding ReaderView → List Datagram → Place
  Spare : Holding ReaderView → Place

-- a caller: its host's number, counted from 0, and its slots in order
pub record CallerView : Type 0 where
  pub host : ℕ
  pub places : List Place

-- those that there are
abbrev pub somes : {A : Type 0} → List (Option A) → List A
somes [] = []
somes (Some a ∷ list) = a ∷ somes list
somes (None ∷ list) = somes list

-- what the slot holds
abbrev pub holding_of : Place → Holding ReaderView
holding_of (Vacant h) = h
holding_of (Bound o got) = o.own
holding_of (Ended port h got) = h
holding_of (Spare h) = h

-- the same slot, which holds something else
abbrev pub with_holding : Place → Holding ReaderView → Place
with_holding (Vacant h) k = Vacant k
with_holding (Bound o got) k = Bound (with_own o k) got
with_holding (Ended port h got) k = Ended port k got
with_holding (Spare h) k = Spare k

abbrev pub IsVacantPlace : Place → Type 0
IsVacantPlace p = (h : Holding ReaderView) × (p ≡ Vacant h)

-- a slot that isn't vacant
abbrev pub IsUsed : Place → Type 0
IsUsed (Vacant h) = ⊥
IsUsed (Bound o got) = Unit {0}
IsUsed (Ended port h got) = Unit {0}
IsUsed (Spare h) = Unit {0}

-- a slot that no open socket has
abbrev pub IsUnbound : Place → Type 0
IsUnbound (Vacant h) = Unit {0}
IsUnbound (Bound o got) = ⊥
IsUnbound (Ended port h got) = Unit {0}
IsUnbound (Spare h) = Unit {0}

abbrev pub bound_place : Open ReaderView → List Datagram → Place
bound_place o got = Bound o got

abbrev pub ended_place : ℕ → Holding ReaderView → List Datagram → Place
ended_place port h got = Ended port h got

-- slots that no socket had yet
abbrev pub vacant_places : List (Holding ReaderView) → List Place
vacant_places vacants = map Vacant vacants

-- a vacant slot is given up, and another stays as it is
abbrev pub spared : Place → Place
spared (Vacant h) = Spare h
spared (Bound o got) = Bound o got
spared (Ended port h got) = Ended port h got
spared (Spare h) = Spare h

-- the mailbox of the slot was told of what one of its putters had put
abbrev pub told_by : Place → Putter Datagram → Place
told_by p note = with_holding p (with_inbox (holding_of p) (record (holding_of p).inbox { get = after_note (holding_of p).inbox.get note }))

-- what is known of the port of a bound socket
abbrev pub bind_note : Place → Option PortSeat
bind_note (Vacant h) = None
bind_note (Bound o got) = Some (knowing o.own.ports (note_of o.own.ports.view))
bind_note (Ended port h got) = None
bind_note (Spare h) = None

-- The socket at a slot handed out exactly what was taken from its mailbox, and isn't closing. Nothing was taken from another's.
abbrev pub HasKept : Place → Type 0
HasKept (Vacant h) = h.inbox.get.got ≡ []
HasKept (Bound o got) = (got ≡ bare_items o.own.inbox.get.got) × (o.told ≡ None)
HasKept (Ended port h got) = got ≡ bare_items h.inbox.get.got
HasKept (Spare h) = h.inbox.get.got ≡ []

-- each slot's number is its place and its socket kept what it took; no two sockets hold one port; and slots are bound in order
pub record ArePlaces (places : List Place) : Type 0 where
  pub number : (slot : ℕ) (p : Place) → slice_get places slot ≡ Some p → (holding_of p).words.slot ≡ slot
  pub kept : (slot : ℕ) (p : Place) → slice_get places slot ≡ Some p → HasKept p
  pub ports : (slot other : ℕ) (o q : Open ReaderView) (got more : List Datagram) → slice_get places slot ≡ Some (Bound o got) →
      slice_get places other ≡ Some (Bound q more) → o.port ≡ q.port → slot ≡ other
  pub order : (slot other : ℕ) (h : Holding ReaderView) (p : Place) → slice_get places slot ≡ Some (Vacant h) → slice_get places other ≡ Some p →
      slot ≤ other → IsVacantPlace p

-- what no call on a slot changes: its seats, its mailbox, its putters and readers, and of which putters its mailbox was told
pub record PlaceKeeps (old new : Holding ReaderView) : Type 0 where
  pub stays : stays.HoldingStays (λ r. r.pair) HasSeen old new
  pub joined : new.inbox.get.joined ≡ old.inbox.get.joined
  pub told : new.inbox.get.told ≡ old.inbox.get.told

-- the same slots, place by place
pub record PlacesKeep (old new : List Place) : Type 0 where
  pub count : length new ≡ length old
  pub each : (slot : ℕ) (p q : Place) → slice_get old slot ≡ Some p → slice_get new slot ≡ Some q → PlaceKeeps (holding_of p) (holding_of q)
