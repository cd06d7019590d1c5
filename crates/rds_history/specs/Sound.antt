-- What every script keeps between each two hosts: both journals follow the rules, each host gets a beginning of what the
-- other wrote, datagrams come first in, first out and each once, and for each port pair a socket hands out what was sent to
-- it, in order and each once, and so do all sockets that held the port, one after another. Sources: rds(7) for reliable and
-- in order; the words are this project's own.
use Rattle.std.specs.Prelude.{◌≡◌, ◌≢◌, ℕ, ◌<◌, ◌==◌, ◌&&◌, Bool, Option, Some, List, ◌++◌, filter, map, All, Contains}
use Rattle.std.specs.Option.{option_map}
use Rattle.std.specs.List.{flat_map}
use Rattle.std.specs.List.Sorted.{IsStrictlyIncreasing}
use Rattle.rds_model.specs.declared.order.Datagram.{Datagram}
use Rattle.rds_model.specs.Past.{Accepted, datagram}
use Rattle.rds_model.specs.Fifo.{IsFifo}
use Rattle.rds_model.specs.Legal.{IsWhole}
use Rattle.rds_model.specs.Honest.{IsHonest}
use Rattle.rds_model.specs.Pairs.{IsDeliveredOnce, delivered, delivered_to}
use Rattle.rds_text.specs.Ports.{below}
use Rattle.rds_text.specs.Hosts.{address_of}
use Rattle.rds_text.specs.Report.{Group, received}
use Rattle.rds_history.specs.Events.{Event}
use Rattle.rds_history.specs.Journals.{journal}
use Rattle.rds_history.specs.Sockets.{next_slot, handed_out, queue}
use Rattle.rds_history.specs.History.{final_hosts}

-- a datagram that host h accepted from one of its sockets, as a socket of another host is to receive it
abbrev pub as_sent : (h : ℕ) → Accepted → Datagram
as_sent h d = record { from = address_of h; sport = d.sport; dport = d.dport; payload = d.payload }

-- the datagram of number n that host h sent to k, if there is one
abbrev pub sent : (h k : ℕ) → List Event → (n : ℕ) → Option Datagram
sent h k past n = option_map (as_sent h) (datagram (journal h k past) n)

-- the datagram comes from port sport of host h, and goes to port dport
abbrev pub is_of_ports : (h sport dport : ℕ) → Datagram → Bool
is_of_ports h sport dport d = d.from == address_of h && (d.sport == sport && (d.dport == dport))

-- those of some datagrams that come from port sport of host h and go to port dport
abbrev pub of_ports : (h sport dport : ℕ) → List Datagram → List Datagram
of_ports h sport dport datagrams = filter (is_of_ports h sport dport) datagrams

-- From port sport of host h to port dport of host k: what the socket of a slot of k handed out, and then what waits there,
-- is in this order the datagrams that h sent under the numbers delivered to that slot.
abbrev pub IsHandedOut : (h sport k dport slot : ℕ) → List Event → Type 0
IsHandedOut h sport k dport slot past =
    map (λ (d : Datagram). Some d) (of_ports h sport dport (handed_out k slot past ++ queue k slot past))
    ≡ map (sent h k past) (delivered_to slot sport dport (journal k h past))

-- the numbers that were delivered for the port pair, socket by socket of host k, from slot 0 on
abbrev pub delivered_by_slot : (h sport k dport : ℕ) → List Event → List ℕ
delivered_by_slot h sport k dport past =
    flat_map (λ slot. delivered_to slot sport dport (journal k h past)) (below (next_slot k past))

-- The port pair is reliable: what was delivered was sent, in order and each once, and each sent datagram up to the last that
-- arrived is accounted for; the sockets hand it out so; and of two sockets that held the port the one of the higher slot got
-- the higher numbers, since read socket by socket the numbers stand in the order of delivery, in which they rise.
pub record IsReliable (h sport k dport : ℕ) (past : List Event) : Type 0 where
  pub once : IsDeliveredOnce sport dport (journal h k past) (journal k h past)
  pub handed_out : (slot : ℕ) → IsHandedOut h sport k dport slot past
  pub by_slot : delivered_by_slot h sport k dport past ≡ delivered sport dport (journal k h past)

-- So it is from host h to host k, and over the whole connection datagrams come first in, first out, and each once.
pub record IsSoundBetween (h k : ℕ) (past : List Event) : Type 0 where
  pub legal_here : IsWhole (journal h k past)
  pub legal_there : IsWhole (journal k h past)
  pub honest : IsHonest (journal h k past) (journal k h past)
  pub fifo : IsFifo (journal h k past) (journal k h past)
  pub reliable : (sport dport : ℕ) → IsReliable h sport k dport past

-- another of so many hosts sent the datagram to host k, under some number
abbrev pub WasSentTo : (hosts k : ℕ) → List Event → Datagram → Type 0
WasSentTo hosts k past d = (h : ℕ) × (n : ℕ) × (h < hosts) × (h ≢ k) × (sent h k past n ≡ Some d)

-- from port sport of host h to port dport of host k
abbrev pub port_pair : (h sport k dport : ℕ) → Group
port_pair h sport k dport = record { to = address_of k; dport = dport; from = address_of h; sport = sport }

-- What the report prints as received for the port pair, from all sockets that held the port, is what h sent under numbers
-- that were delivered, and that rise.
pub record IsReportedInOrder (hosts h sport k dport : ℕ) (past : List Event) : Type 0 where
  pub numbers : List ℕ
  pub rise : IsStrictlyIncreasing numbers
  pub came : All (Contains (delivered sport dport (journal k h past))) numbers
  pub printed : map (λ (d : Datagram). Some d) (received (final_hosts hosts past) (port_pair h sport k dport)) ≡ map (sent h k past) numbers

-- So it is between each two hosts, and what is printed of them; and the sockets of a host hand out nothing but what another
-- of these hosts sent to it.
pub record IsSoundPast (hosts : ℕ) (past : List Event) : Type 0 where
  pub between : (h k : ℕ) → h < hosts → k < hosts → h ≢ k → IsSoundBetween h k past
  pub all_sent : (k slot : ℕ) → All (WasSentTo hosts k past) (handed_out k slot past ++ queue k slot past)
  pub reported : (h k : ℕ) → h < hosts → k < hosts → h ≢ k → (sport dport : ℕ) → IsReportedInOrder hosts h sport k dport past
