-- What a command does to the slots of a caller. This project's own.
use Rattle.std.specs.Prelude.{◌≡◌, ◌≢◌, ◌⊎◌, ◌+◌, ◌<◌, ◌≤◌, ℕ, List, [], length, Ok, Some, slice_get, slice_set}
use Rattle.rds_model.specs.declared.order.Datagram.{Datagram}
use Rattle.rds_fmap.specs.Readers.{ReaderView}
use Rattle.rds_text.specs.Hosts.{address_of}
use Rattle.rds_script.specs.declared.script.Command.{Command}
use Rattle.rds_script.specs.declared.script.Command.TheVariants as script
use Rattle.rds_socket_parts.specs.Ports.{first_port, port_after}
use Rattle.rds_socket.specs.Holding.{Holding, Open}
use Rattle.rds_socket.specs.Binds.{BindFits, BindAnyFits}
use Rattle.rds_run_callers.specs.Places.{Place, Vacant, Bound}
use Rattle.rds_run_callers.specs.Tenants.{SendsFrom, ReceivesNext, Cancels, Closes, Cuts}

-- this socket, which handed these out, is bound at the slot
abbrev pub IsBoundAt : List Place → ℕ → Open ReaderView → List Datagram → Type 0
IsBoundAt places slot o got = slice_get places slot ≡ Some (Bound o got)

-- a socket holds the port
abbrev pub IsHeld : List Place → ℕ → Type 0
IsHeld places port = (slot : ℕ) × (o : Open ReaderView) × (got : List Datagram) × IsBoundAt places slot o got × (o.port ≡ port)

-- no socket holds it
abbrev pub IsFree : List Place → ℕ → Type 0
IsFree places port = (slot : ℕ) (o : Open ReaderView) (got : List Datagram) → IsBoundAt places slot o got → o.port ≢ port

-- it is the first that is free, from `start` upward and round the top to 2
abbrev pub IsFirstFree : List Place → ℕ → ℕ → Type 0
IsFirstFree places start port = (n : ℕ) × (port ≡ port_after (first_port start) n) × IsFree places port
    × ((m : ℕ) → m < n → IsHeld places (port_after (first_port start) m))

-- no slot is vacant
abbrev pub NoneVacant : List Place → Type 0
NoneVacant places = (slot : ℕ) (h : Holding ReaderView) → slice_get places slot ≢ Some (Vacant h)

-- it is the first vacant slot
abbrev pub IsNext : List Place → ℕ → Holding ReaderView → Type 0
IsNext places slot h = (slice_get places slot ≡ Some (Vacant h)) × ((other : ℕ) (k : Holding ReaderView) → slice_get places other ≡ Some (Vacant k) → slot ≤ other)

-- the first vacant slot got a socket of this kind, which handed nothing out yet
abbrev pub BindsNext : (Holding ReaderView → Open ReaderView → Type 0) → List Place → List Place → Type 0
BindsNext Fits old new = (slot : ℕ) × (h : Holding ReaderView) × (o : Open ReaderView) × IsNext old slot h × Fits h o × (new ≡ slice_set old slot (Bound o []))

-- no slot is vacant, or the port is reserved, or a socket holds it
abbrev pub CannotBind : ℕ → List Place → Type 0
CannotBind port places = NoneVacant places ⊎ ((port < 2) ⊎ IsHeld places port)

-- the port was bound by the first vacant slot; or that couldn't be, and nothing changed
abbrev pub Binds : ℕ → ℕ → ℕ → List Place → List Place → Type 0
Binds port sndbuf rcvbuf old new = ((2 ≤ port) × IsFree old port × BindsNext (λ h o. BindFits h port sndbuf rcvbuf (Ok o)) old new) ⊎ (CannotBind port old × (new ≡ old))

-- the first free port was bound by the first vacant slot; or there is none, and nothing changed
abbrev pub BindsFirstFree : ℕ → ℕ → ℕ → List Place → List Place → Type 0
BindsFirstFree start sndbuf rcvbuf old new =
    BindsNext (λ h o. BindAnyFits h start sndbuf rcvbuf (Ok o) × IsFirstFree old start o.port) old new ⊎ (NoneVacant old × (new ≡ old))

-- the place of the socket that holds the port is another now, which these relate; or none holds it, and nothing changed
abbrev pub AtPort : ℕ → (Open ReaderView → List Datagram → Place → Type 0) → List Place → List Place → Type 0
AtPort port Rel old new = ((slot : ℕ) × (o : Open ReaderView) × (got : List Datagram) × IsBoundAt old slot o got × (o.port ≡ port) × ((p : Place) × Rel o got p × (new ≡ slice_set old slot p)))
    ⊎ (IsFree old port × (new ≡ old))

-- a cut goes by the routes of the last slot, whatever became of it; or there is no slot
abbrev pub CutsByLast : ℕ → List Place → List Place → Type 0
CutsByLast peer old new = ((slot : ℕ) × (p q : Place) × (slot + 1 ≡ length old) × (slice_get old slot ≡ Some p) × Cuts peer p q × (new ≡ slice_set old slot q))
    ⊎ ((old ≡ []) × (new ≡ old))

-- what a command did that returned without an error
abbrev pub IsDone : Command → List Place → List Place → Type 0
IsDone (script.Bind host port sndbuf rcvbuf) old new = Binds port sndbuf rcvbuf old new
IsDone (script.BindAny host port sndbuf rcvbuf) old new = BindsFirstFree port sndbuf rcvbuf old new
IsDone (script.Send host port to dport payload) old new = AtPort port (SendsFrom (address_of to) dport payload) old new
IsDone (script.Recv host port) old new = AtPort port ReceivesNext old new
IsDone (script.Cancel host port to dport) old new = AtPort port (Cancels (address_of to) dport) old new
IsDone (script.Close host port) old new = AtPort port Closes old new
IsDone (script.Open host to) old new = new ≡ old
IsDone (script.Move host to bytes) old new = new ≡ old
IsDone (script.Cut host to) old new = CutsByLast (address_of to) old new
IsDone script.Drain old new = new ≡ old
