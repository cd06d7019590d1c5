-- What the callers of a run did. Source: this project's own.
use Rattle.std.specs.Prelude.{◌≡◌, ◌≢◌, ◌⊎◌, ℕ, ◌==◌, ◌&&◌, Bool, false, List, [], ◌∷◌, All, Option, Some, None, filter, if◌then◌else◌, length, map, nat_lt, slice_get}
use Rattle.rds_model.specs.declared.entry.TheConstants.{MAX_SLOTS}
use Rattle.rds_fmap.specs.Readers.{ReaderView}
use Rattle.rds_socket_parts.specs.Lanes.{Lane, peers_of}
use Rattle.rds_text.specs.Hosts.{address_of}
use Rattle.rds_script.specs.declared.script.Placed.{Placed}
use Rattle.rds_socket.specs.Holding.{Holding}
use Rattle.rds_run_callers.specs.Commands.{binds, commander}
use Rattle.rds_run_callers.specs.Doing.{IsDone}
use Rattle.rds_run_callers.specs.Places.{Place, Vacant}
use Rattle.rds_run_rounds.specs.Grid.{others}

-- The caller of a host did a command exactly as `IsDone` says, if it is the host's own; another it left out.
abbrev pub DoesCommand : (host : ℕ) → Placed → List Place → List Place → Type 0
DoesCommand host placed old new =
    ((commander placed.command ≡ Some host) × IsDone placed.command old new) ⊎ ((commander placed.command ≢ Some host) × (new ≡ old))

-- so it did these commands, one after the other
abbrev pub HasObeyed : (host : ℕ) → List Placed → List Place → List Place → Type 0
HasObeyed host [] first last = last ≡ first
HasObeyed host (placed ∷ commands) first last = (middle : List Place) × DoesCommand host placed first middle × HasObeyed host commands middle last

-- the binds that a script begins with
abbrev pub leading_binds : List Placed → List Placed
leading_binds [] = []
leading_binds (placed ∷ commands) = if binds placed.command then placed ∷ leading_binds commands else []

-- the commands after them
abbrev pub after_binds : List Placed → List Placed
after_binds [] = []
after_binds (placed ∷ commands) = if binds placed.command then after_binds commands else placed ∷ commands

-- The slot at this place of one of so many hosts, which no socket had: its number is its place, it has a route to each other host and no
-- more, and it has put no order, got no datagram, sent no bytes and made no step at the meter.
pub record IsNewSlot (hosts host place : ℕ) (p : Place) : Type 0 where
  pub holding : Holding ReaderView
  pub vacant : p ≡ Vacant holding
  pub number : holding.words.slot ≡ place
  pub routes : peers_of holding.routes ≡ map address_of (others hosts host)
  pub put : All (λ (lane : Lane ReaderView). lane.pass.put ≡ []) holding.routes
  pub got : holding.inbox.get.got ≡ []
  pub total : holding.total ≡ 0
  pub steps : holding.words.seat.view.steps ≡ []

-- each slot of one of so many hosts is new
abbrev pub AreNewPlaces : (hosts host : ℕ) → List Place → Type 0
AreNewPlaces hosts host places = (place : ℕ) (p : Place) → slice_get places place ≡ Some p → IsNewSlot hosts host place p

-- whether it is this host
abbrev pub is_host : ℕ → Option ℕ → Bool
is_host host None = false
is_host host (Some other) = other == host

-- this number, but at least one and at most the most slots that a host may have
abbrev pub within_slots : ℕ → ℕ
within_slots n = if nat_lt n 1 then 1 else if nat_lt MAX_SLOTS n then MAX_SLOTS else n

-- whether the command binds a socket of the host
abbrev pub is_bind_of : ℕ → Placed → Bool
is_bind_of host placed = binds placed.command && is_host host (commander placed.command)

-- how many slots a host of a run has: one for each bind of its own, but at least one and at most 1,024
abbrev pub slot_count : ℕ → List Placed → ℕ
slot_count host commands = within_slots (length (filter (is_bind_of host) commands))

-- the caller of one of so many hosts, with these slots, did its own of these commands, from so many slots that were new
pub record HasDone (hosts host : ℕ) (commands : List Placed) (places : List Place) : Type 0 where
  pub first : List Place
  pub count : length first ≡ slot_count host commands
  pub new : AreNewPlaces hosts host first
  pub obeyed : HasObeyed host commands first places
