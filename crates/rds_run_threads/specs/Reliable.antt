-- What the sockets of a host handed out in a run, beside what its journals delivered and what other hosts sent. The words are those of a
-- script that is played (rds_history, Sound). Source: rds(7) for reliable and in order; the words are this project's own.
use Rattle.std.specs.Prelude.{◌≡◌, ℕ, ◌==◌, Some, List, ◌++◌, All, Contains, filter, map, slice_get}
use Rattle.std.specs.Option.{option_map}
use Rattle.rds_wire.specs.declared.frame.Frame.{Frame}
use Rattle.rds_model.specs.declared.entry.Entry.{Entry}
use Rattle.rds_model.specs.declared.entry.Entry.TheVariants.{Read}
use Rattle.rds_model.specs.declared.entry.Outcome.TheVariants as outcome
use Rattle.rds_model.specs.declared.order.Datagram.{Datagram}
use Rattle.rds_model.specs.Deliveries.{delivered_datagrams}
use Rattle.rds_model.specs.Pairs.{IsDeliveredOnce, delivered_to}
use Rattle.rds_model.specs.Past.{datagram}
use Rattle.rds_text.specs.FinalState.{FinalHost, FinalJournal, FinalSocket}
use Rattle.rds_history.specs.Sound.{as_sent, of_ports}

-- what a socket handed out, and then what it left unread
abbrev pub all_handed : FinalSocket → List Datagram
all_handed s = s.got ++ s.unread

-- those of some datagrams that come from the host at an address
abbrev pub from_host : (addr : ℕ) → List Datagram → List Datagram
from_host addr datagrams = filter (λ (d : Datagram). d.from == addr) datagrams

-- of what came from a peer, the socket handed out exactly what the journal with that peer delivered to its slot, in order
abbrev pub HandsOutDelivered : FinalSocket → FinalJournal → Type 0
HandsOutDelivered s side = from_host side.peer (all_handed s) ≡ delivered_datagrams side.peer s.slot side.past

-- one of these journals is with the host at this address
abbrev pub IsWithPeer : List FinalJournal → ℕ → Type 0
IsWithPeer sides addr = (place : ℕ) × (side : FinalJournal) × (slice_get sides place ≡ Some side) × (side.peer ≡ addr)

-- the datagram of this frame went to the slot of one of these sockets, which had the port that it was sent to
abbrev pub WentToSocket : List FinalSocket → (slot : ℕ) → Frame → Type 0
WentToSocket sockets slot f = (place : ℕ) × (s : FinalSocket) × (slice_get sockets place ≡ Some s) × (s.slot ≡ slot) × (s.port ≡ f.header.dport)

-- so did each datagram that the journal delivered
abbrev pub AllWentToSockets : List FinalSocket → FinalJournal → Type 0
AllWentToSockets sockets side = (stream slot : ℕ) (f : Frame) → Contains side.past (Read stream f (outcome.Slot slot)) → WentToSocket sockets slot f

-- each socket of the host handed out exactly what its journals delivered to it, and nothing from anyone else
pub record HasReceived (host : FinalHost) : Type 0 where
  pub delivered : All (λ (s : FinalSocket). All (HandsOutDelivered s) host.sides) host.sockets
  pub known : All (λ (s : FinalSocket). All (λ (d : Datagram). IsWithPeer host.sides d.from) (all_handed s)) host.sockets

-- From port sport of host h, with this journal, to port dport of a host with that journal and this socket: what the socket handed out,
-- and then what it left unread, is in this order the datagrams that h sent under the numbers delivered to its slot.
abbrev pub HandsOutSent : (h sport dport : ℕ) (sender receiver : List Entry) → FinalSocket → Type 0
HandsOutSent h sport dport sender receiver s =
    map (λ (d : Datagram). Some d) (of_ports h sport dport (all_handed s))
    ≡ map (λ (n : ℕ). option_map (as_sent h) (datagram sender n)) (delivered_to s.slot sport dport receiver)

-- Each port pair from host h to the host with these sockets is reliable: what was delivered was sent, in order and each once, and each
-- sent datagram up to the last that arrived is accounted for; and the sockets hand it out so.
pub record IsReliableTo (h : ℕ) (sender receiver : List Entry) (sockets : List FinalSocket) : Type 0 where
  pub once : (sport dport : ℕ) → IsDeliveredOnce sport dport sender receiver
  pub handed_out : (sport dport : ℕ) → All (HandsOutSent h sport dport sender receiver) sockets
