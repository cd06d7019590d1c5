-- What the calls of a caller do to a socket and what it handed out. This project's own.
use Rattle.std.specs.Prelude.{◌≡◌, ◌≢◌, ◌⊎◌, ℕ, List, [], ◌∷◌, ◌++◌, Result, Ok, Err}
use Rattle.rds_model.specs.declared.order.Datagram.{Datagram}
use Rattle.rds_model.specs.declared.order.Order.{Order}
use Rattle.rds_model.specs.declared.order.Order.TheVariants as order
use Rattle.rds_mail.specs.Learning.{AllGot}
use Rattle.rds_fmap.specs.Readers.{ReaderView, IsLook}
use Rattle.rds_socket_parts.specs.declared.error.CancelError.{CancelError}
use Rattle.rds_socket_parts.specs.declared.error.CancelError.TheVariants as cancel
use Rattle.rds_socket_parts.specs.Lanes.{NoneTo, IsPutTo}
use Rattle.rds_socket.specs.declared.error.SendError.{SendError}
use Rattle.rds_socket.specs.declared.error.SendError.TheVariants.{Memory}
use Rattle.rds_socket.specs.Holding.{Holding, Open}
use Rattle.rds_socket.specs.Calls.{with_own, with_routes, IsReceived, IsClosed}
use Rattle.rds_socket.specs.Sends.{IsSent, RefusalFits}
use Rattle.rds_run_callers.specs.Places.{Place, Bound, Ended, holding_of, with_holding}

-- an order was put, or no route leads to the peer: it wasn't for want of memory
abbrev pub IsAllowed : Result (Unit {0}) CancelError → Type 0
IsAllowed (Ok done) = Unit {0}
IsAllowed (Err (cancel.NoRoute peer)) = Unit {0}
IsAllowed (Err cancel.Memory) = ⊥

-- the order was put on the queue to the peer, or no route leads there and nothing changed
abbrev pub Asks : ℕ → Order → Holding ReaderView → Holding ReaderView → Type 0
Asks peer item old new = (IsPutTo peer item old.routes new.routes × (new ≡ with_routes old new.routes)) ⊎ (NoneTo old.routes peer × (new ≡ old))

-- the datagram was sent, or refused for a reason other than memory
abbrev pub SendsOrNot : ℕ → ℕ → List ℕ → Open ReaderView → Open ReaderView → Type 0
SendsOrNot peer dport payload old new = IsSent IsLook peer dport payload old new ⊎ ((e : SendError) × (e ≢ Memory) × RefusalFits IsLook peer dport payload old e new)

-- the same holds of a socket that keeps what it handed out
abbrev pub SendsFrom : ℕ → ℕ → List ℕ → Open ReaderView → List Datagram → Place → Type 0
SendsFrom peer dport payload o got p = (q : Open ReaderView) × SendsOrNot peer dport payload o q × (p ≡ Bound q got)

-- one datagram was received and kept, or the mailbox was found empty and nothing changed
abbrev pub ReceivesNext : Open ReaderView → List Datagram → Place → Type 0
ReceivesNext o got p = ((item : Datagram) × (q : Open ReaderView) × IsReceived item o q × (p ≡ Bound q (got ++ item ∷ []))) ⊎ (AllGot o.own.inbox.get × (p ≡ Bound o got))

-- what it had sent to a port of the peer was taken back, if a route leads to the peer
abbrev pub Cancels : ℕ → ℕ → Open ReaderView → List Datagram → Place → Type 0
Cancels peer dport o got p = (h : Holding ReaderView) × Asks peer (order.Cancel o.own.words.slot dport) o.own h × (p ≡ Bound (with_own o h) got)

-- the socket was closed
abbrev pub Closes : Open ReaderView → List Datagram → Place → Type 0
Closes o got p = (h : Holding ReaderView) × IsClosed o h × (p ≡ Ended o.port h got)

-- a cut of the stream to the peer was asked for, if a route leads there
abbrev pub Cuts : ℕ → Place → Place → Type 0
Cuts peer old new = (h : Holding ReaderView) × Asks peer order.Cut (holding_of old) h × (new ≡ with_holding old h)
