-- The slots as they are held, and as contracts see them. This project's own.
use Rattle.std.specs.Prelude.{◌≡◌, ◌==◌, ℕ, Bool, true, false, List, map, Option, Some, None, Result, OnOk, slice_get, length, ◌≤◌}
use Rattle.rds_fmap.specs.Readers.{ReaderView}
use Rattle.rds_socket.specs.Holding.{Holding}
use Rattle.rds_wire.specs.declared.memory.Memory.{Memory}
use Rattle.rds_run_callers.specs.Places.{Place, ArePlaces, PlacesKeep, Vacant, Bound, Ended, Spare, somes}
use Rattle.rds_run_callers.specs.declared.state.State.{State}
use Rattle.rds_run_callers.specs.declared.state.State.TheVariants as state

-- what contracts see of a slot that no call has in its hands
abbrev pub shown : State → Option Place
shown (state.Vacant h) = Some (Vacant h)
shown (state.Bound t) = Some (Bound t.socket t.got.items)
shown (state.Ended f) = Some (Ended f.port f.closed f.got.items)
shown (state.Spare s) = Some (Spare s.closed)
shown state.Away = None

-- what contracts see of all slots
abbrev pub shown_all : List State → List Place
shown_all states = somes (map shown states)

-- no slot is in the hands of a call
abbrev pub NoneAway : List State → Type 0
NoneAway states = map shown states ≡ map Some (shown_all states)

abbrev pub is_vacant : State → Bool
is_vacant (state.Vacant h) = true
is_vacant (state.Bound t) = false
is_vacant (state.Ended f) = false
is_vacant (state.Spare s) = false
is_vacant state.Away = false

-- whether a socket holds the port
abbrev pub holds_port : ℕ → State → Bool
holds_port port (state.Vacant h) = false
holds_port port (state.Bound t) = t.socket.port == port
holds_port port (state.Ended f) = false
holds_port port (state.Spare s) = false
holds_port port state.Away = false

-- the port of a slot's socket, and 0 where none is bound
abbrev pub port_mark : State → ℕ
port_mark (state.Vacant h) = 0
port_mark (state.Bound t) = t.socket.port
port_mark (state.Ended f) = 0
port_mark (state.Spare s) = 0
port_mark state.Away = 0

-- whether it is the port
abbrev pub is_port : ℕ → ℕ → Bool
is_port port held = held == port

-- none of them is one of these
abbrev pub AreNot : {A : Type 0} → (A → Bool) → List A → Type 0
AreNot {A} is list = (place : ℕ) (x : A) → slice_get list place ≡ Some x → is x ≡ false

abbrev pub vacant_states : List (Holding ReaderView) → List State
vacant_states vacants = map state.Vacant vacants

-- no slot is in the hands of a call, their number fits, and they are what a caller's slots are
pub record AreSlots (states : List State) : Type 0 where
  pub whole : NoneAway states
  pub count : length states ≤ 65535
  pub places : ArePlaces (shown_all states)

-- What a call on the slots comes to: they are what a caller's slots are, each is kept, and where no memory was wanting this was done.
pub record ComesTo (Done : List Place → List Place → Type 0) (old new : List State) (result : Result (Unit {0}) Memory) : Type 0 where
  pub sound : AreSlots new
  pub keeps : PlacesKeep (shown_all old) (shown_all new)
  pub done : OnOk result (Done (shown_all old) (shown_all new))
