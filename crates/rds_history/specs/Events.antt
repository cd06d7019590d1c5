-- What happens while a script runs. A past is the list of the events so far, the newest first. Source: this project's
-- own.
use Rattle.std.specs.Prelude.{ℕ, Bool, List}
use Rattle.rds_model.specs.declared.entry.Entry.{Entry}
use Rattle.rds_model.specs.declared.order.Datagram.{Datagram}

pub data Event : Type 0 where
  -- host h appended an entry to the journal that it keeps of its connection with k
  Appended : (h k : ℕ) → Entry → Event
  -- host h bound a socket to a port; the socket has a slot, and so many bytes of send and receive buffer
  Bound : (h port slot sndbuf rcvbuf : ℕ) → Event
  -- host h closed the socket of a slot at a port, which left so many datagrams unread
  Closed : (h port slot unread : ℕ) → Event
  -- the socket of a slot at a port of host h handed a datagram out
  Received : (h port slot : ℕ) → Datagram → Event
  -- a port of host h became congested or free, with so many bytes queued and such a limit
  Marked : (h port : ℕ) → Bool → (queued limit : ℕ) → Event
  -- so many bytes went from host h to host k
  Moved : (h k count : ℕ) → Event
  -- a text line was printed that belongs to no other event
  Printed : List ℕ → Event
