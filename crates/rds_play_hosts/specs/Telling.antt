-- What the fields of a host tell of a past. Source: this project's own.
use Rattle.std.specs.Prelude.{◌≡◌, ℕ, ◌<◌, ◌≤◌, List, [], length, map, get_or}
use Rattle.std.specs.BTreeMap as tree
use Rattle.std.specs.Ordering.{nat_cmp}
use Rattle.rds_cong.specs.Map.{has_port}
use Rattle.rds_history.specs.Events.{Event}
use Rattle.rds_history.specs.Journals.{is_marked, own_map}
use Rattle.rds_history.specs.Sockets.{next_slot, holder, bound_port, send_buffer, receive_buffer, arrived_datagrams, handed_out, queue, queued}
use Rattle.rds_play_hosts.specs.declared.host.Arrived.{Arrived}
use Rattle.rds_play_hosts.specs.declared.host.ScriptSocket.{ScriptSocket}
use Rattle.rds_play_hosts.specs.declared.host.ScriptHost.{ScriptHost}

-- a socket has its slot, its port, its buffers, what waits at it, and what it handed out
pub record TellsSocket (h slot : ℕ) (past : List Event) (s : ScriptSocket) : Type 0 where
  pub slot_is : s.slot ≡ slot
  pub port_is : s.port ≡ bound_port h slot past
  pub sndbuf_is : s.sndbuf ≡ send_buffer h slot past
  pub rcvbuf_is : s.rcvbuf ≡ receive_buffer h slot past
  pub queue_is : map (λ (a : Arrived). a.datagram) s.queue.items ≡ queue h slot past
  pub queued_is : s.queued ≡ queued h slot past
  pub got_is : s.got.items ≡ handed_out h slot past
  pub within : length (handed_out h slot past) ≤ length (arrived_datagrams h slot past)

-- nothing came to the socket of a slot, or left it
pub record IsFreshSlot (h slot : ℕ) (past : List Event) : Type 0 where
  pub none_came : arrived_datagrams h slot past ≡ []
  pub none_left : handed_out h slot past ≡ []

-- a host has its sockets, those that hold its ports, and its congestion map
pub record TellsHost (h : ℕ) (past : List Event) (x : ScriptHost) : Type 0 where
  pub binds_are : length x.sockets.items ≡ next_slot h past
  pub holders_are : (port : ℕ) → tree.get nat_cmp x.holders port ≡ holder h port past
  pub map_is : x.map ≡ own_map h past
  pub marks_are : (port : ℕ) → has_port x.map port ≡ is_marked h port past
  pub sockets_are : (slot : ℕ) → slot < next_slot h past → (s : ScriptSocket) → s ≡ get_or x.sockets.items slot s →
      TellsSocket h slot past s
  pub fresh : (slot : ℕ) → next_slot h past ≤ slot → IsFreshSlot h slot past
