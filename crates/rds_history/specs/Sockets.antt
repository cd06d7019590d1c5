-- What a past says of the sockets. Source: this project's own.
use Rattle.std.specs.Prelude.{ℕ, suc, ◌==◌, ◌&&◌, if◌then◌else◌, Option, Some, None, List, [], ◌∷◌, ◌++◌, length, drop, sum_by}
use Rattle.rds_wire.specs.declared.frame.Frame.{Frame}
use Rattle.rds_model.specs.declared.order.Datagram.{Datagram}
use Rattle.rds_model.specs.declared.entry.Entry.TheVariants.{Read}
use Rattle.rds_model.specs.declared.entry.Outcome.{Outcome}
use Rattle.rds_model.specs.declared.entry.Outcome.TheVariants as outcome
use Rattle.rds_model.specs.Deliveries.{datagram_from}
use Rattle.rds_model.specs.Alive.{alive_bytes}
use Rattle.rds_history.specs.Events.{Event, Appended, Bound, Closed, Received}
use Rattle.rds_text.specs.Hosts.{address_of}
use Rattle.rds_history.specs.Journals.{journal, peers}

-- the slot of the next socket of host h: it has bound so many
abbrev pub next_slot : ℕ → List Event → ℕ
next_slot h [] = 0
next_slot h (Bound host port slot sndbuf rcvbuf ∷ past) = if host == h then suc (next_slot h past) else next_slot h past
next_slot h (_ ∷ past) = next_slot h past

-- the slot of the socket that holds a port of host h, if one does
abbrev pub holder : (h port : ℕ) → List Event → Option ℕ
holder h port [] = None
holder h port (Bound host at slot sndbuf rcvbuf ∷ past) = if host == h && (at == port) then Some slot else holder h port past
holder h port (Closed host at slot unread ∷ past) = if host == h && (at == port) then None else holder h port past
holder h port (_ ∷ past) = holder h port past

-- what is chosen of a slot's bind: of its port, its send buffer and its receive buffer
abbrev pub of_bind : (choose : (port sndbuf rcvbuf : ℕ) → ℕ) → (h slot : ℕ) → List Event → ℕ
of_bind choose h slot [] = 0
of_bind choose h slot (Bound host port at sndbuf rcvbuf ∷ past) =
    if host == h && (at == slot) then choose port sndbuf rcvbuf else of_bind choose h slot past
of_bind choose h slot (_ ∷ past) = of_bind choose h slot past

-- the port that a slot was bound to
abbrev pub bound_port : (h slot : ℕ) → List Event → ℕ
bound_port h slot past = of_bind (λ port sndbuf rcvbuf. port) h slot past

-- the bytes of a slot's send buffer
abbrev pub send_buffer : (h slot : ℕ) → List Event → ℕ
send_buffer h slot past = of_bind (λ port sndbuf rcvbuf. sndbuf) h slot past

-- the bytes of a slot's receive buffer
abbrev pub receive_buffer : (h slot : ℕ) → List Event → ℕ
receive_buffer h slot past = of_bind (λ port sndbuf rcvbuf. rcvbuf) h slot past

-- the datagram, where the outcome is this slot
abbrev pub delivery : (slot k : ℕ) → Frame → Outcome → List Datagram
delivery slot k f (outcome.Slot to) = if to == slot then datagram_from (address_of k) f ∷ [] else []
delivery slot k f _ = []

-- the datagrams that were delivered to a slot of host h, the first one first
abbrev pub arrived_datagrams : (h slot : ℕ) → List Event → List Datagram
arrived_datagrams h slot [] = []
arrived_datagrams h slot (Appended host k (Read stream f outcome) ∷ past) =
    if host == h then arrived_datagrams h slot past ++ delivery slot k f outcome else arrived_datagrams h slot past
arrived_datagrams h slot (_ ∷ past) = arrived_datagrams h slot past

-- the datagrams that the socket of a slot handed out, the first one first
abbrev pub handed_out : (h slot : ℕ) → List Event → List Datagram
handed_out h slot [] = []
handed_out h slot (Received host port at d ∷ past) =
    if host == h && (at == slot) then handed_out h slot past ++ d ∷ [] else handed_out h slot past
handed_out h slot (_ ∷ past) = handed_out h slot past

-- the datagrams that wait at a slot: those delivered and not handed out
abbrev pub queue : (h slot : ℕ) → List Event → List Datagram
queue h slot past = drop (length (handed_out h slot past)) (arrived_datagrams h slot past)

-- how many bytes wait at a slot
abbrev pub queued : (h slot : ℕ) → List Event → ℕ
queued h slot past = sum_by (λ (d : Datagram). length d.payload) (queue h slot past)

-- the bytes of a slot's datagrams that are alive at any peer
abbrev pub unacknowledged : (hosts h slot : ℕ) → List Event → ℕ
unacknowledged hosts h slot past = sum_by (λ k. alive_bytes slot (journal h k past)) (peers hosts h)
