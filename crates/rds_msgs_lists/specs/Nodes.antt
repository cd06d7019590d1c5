-- Nodes that stand on lists by index, and what linking and unlinking make of them. Source: this project's own.
use Rattle.std.specs.Prelude.{ℕ, ◌<◌, ⊤, Option, Some, None, List, [], ◌∷◌, ◌++◌, length, get_or, set}
use Rattle.rds_msgs_lists.specs.declared.node.Node.{Node}
use Rattle.rds_msgs_lists.specs.declared.node.Neighbours.{Neighbours}
use Rattle.rds_msgs_lists.specs.declared.node.Side.{Side}
use Rattle.rds_msgs_lists.specs.declared.node.Side.TheVariants.{Connection, Socket}

-- nodes, and the ends of one of the lists on which they stand
pub record Ring : Type 0 where
  pub nodes : List Node
  pub ends : Neighbours

-- the ends of a list that none made
abbrev pub no_ends : Neighbours
no_ends = record { next = None; previous = None }

-- the ring of these
abbrev pub ring_of : List Node → Neighbours → Ring
ring_of nodes ends = record { nodes = nodes; ends = ends }

-- a node that none made
abbrev pub no_node : Node
no_node = record { connection = no_ends; socket = no_ends; list = 0 }

-- the node of an index
abbrev pub node_at : List Node → ℕ → Node
node_at nodes k = get_or nodes k no_node

-- an index or none is that of a node
abbrev pub IsWithin : Option ℕ → List Node → Type 0
IsWithin None nodes = ⊤
IsWithin (Some k) nodes = k < length nodes

-- the neighbours of a node on the list of a side
abbrev pub neighbours : Side → Node → Neighbours
neighbours Connection n = n.connection
neighbours Socket n = n.socket

-- the node with other neighbours there
abbrev pub with_neighbours : Side → Neighbours → Node → Node
with_neighbours Connection by n = record n { connection = by }
with_neighbours Socket by n = record n { socket = by }

-- what stands behind an index; the first, behind none
abbrev pub next_in : Side → Ring → Option ℕ → Option ℕ
next_in side r None = r.ends.next
next_in side r (Some k) = (neighbours side (node_at r.nodes k)).next

-- what stands before an index; the last, before none
abbrev pub previous_in : Side → Ring → Option ℕ → Option ℕ
previous_in side r None = r.ends.previous
previous_in side r (Some k) = (neighbours side (node_at r.nodes k)).previous

-- the ring with other neighbours of a node
abbrev pub ring_node : Side → ℕ → Neighbours → Ring → Ring
ring_node side k by r = record r { nodes = set r.nodes k (with_neighbours side by (node_at r.nodes k)) }

-- the ring after a write of what stands behind an index or none
abbrev pub ring_next : Side → Option ℕ → Option ℕ → Ring → Ring
ring_next side None next r = record r { ends = record r.ends { next = next } }
ring_next side (Some k) next r = ring_node side k (record (neighbours side (node_at r.nodes k)) { next = next }) r

-- the ring after a write of what stands before an index or none
abbrev pub ring_previous : Side → Option ℕ → Option ℕ → Ring → Ring
ring_previous side None previous r = record r { ends = record r.ends { previous = previous } }
ring_previous side (Some k) previous r = ring_node side k (record (neighbours side (node_at r.nodes k)) { previous = previous }) r

-- the ring without an index: its neighbours are one another's
unfoldable pub unlinked : Side → ℕ → Ring → Ring
unlinked side k r =
    let by = neighbours side (node_at r.nodes k) in
    ring_previous side by.next by.previous (ring_next side by.previous by.next r)

-- the ring with an index at its end
unfoldable pub linked : Side → ℕ → Ring → Ring
linked side k r =
    let last = r.ends.previous in
    ring_node side k (record { next = None; previous = last }) (ring_previous side None (Some k) (ring_next side last (Some k) r))

-- all nodes, the ends of each socket's list, those of the list of all, and the first free index
pub record Links : Type 0 where
  pub nodes : List Node
  pub sockets : List Neighbours
  pub ends : Neighbours
  pub free : Option ℕ

-- the list of a socket, as a ring
abbrev pub socket_ring : List Node → List Neighbours → ℕ → Ring
socket_ring nodes sockets s = record { nodes = nodes; ends = get_or sockets s no_ends }

-- a node on no list yet, for the list of a socket
abbrev pub fresh : ℕ → Node
fresh s = record { connection = no_ends; socket = no_ends; list = s }

-- the ring of all without an index
abbrev pub short_ring : ℕ → List Node → Neighbours → Ring
short_ring x nodes ends = unlinked Connection x (ring_of nodes ends)

-- the ring of a socket without an index of its own
abbrev pub off_ring : ℕ → List Node → List Neighbours → Ring
off_ring x nodes sockets = unlinked Socket x (socket_ring nodes sockets (node_at nodes x).list)

-- the socket of an index, on whose list it still is, and the ring of that without it
abbrev pub socket_left : ℕ → List Node → Neighbours → ℕ
socket_left x nodes ends = (node_at (short_ring x nodes ends).nodes x).list

abbrev pub off_both : ℕ → List Node → List Neighbours → Neighbours → Ring
off_both x nodes sockets ends = off_ring x (short_ring x nodes ends).nodes sockets

-- the nodes with a free one
abbrev pub freed : ℕ → Option ℕ → List Node → List Node
freed x free nodes = set nodes x (record (node_at nodes x) { connection = record { next = free; previous = None } })

-- without an index on both lists, which is a free one then
unfoldable pub taken_off : ℕ → Links → Links
taken_off x l =
    let r = short_ring x l.nodes l.ends in
    let q = off_ring x r.nodes l.sockets in
    record l { nodes = freed x l.free q.nodes; sockets = set l.sockets (node_at r.nodes x).list q.ends; ends = r.ends; free = Some x }

-- the index that a push takes: the first free one, or one that none had
abbrev pub index_from : Option ℕ → List Node → ℕ
index_from None nodes = length nodes
index_from (Some k) nodes = k

-- the nodes with a fresh one there
abbrev pub placed_nodes : Option ℕ → ℕ → List Node → List Node
placed_nodes None s nodes = nodes ++ fresh s ∷ []
placed_nodes (Some k) s nodes = set nodes k (fresh s)

-- and the first free index then
abbrev pub free_from : Option ℕ → List Node → Option ℕ
free_from None nodes = None
free_from (Some k) nodes = (node_at nodes k).connection.next

-- with a fresh node
abbrev pub placed : ℕ → Links → Links
placed s l = record l { nodes = placed_nodes l.free s l.nodes; free = free_from l.free l.nodes }

-- the ring of all with an index at its end
abbrev pub end_ring : ℕ → List Node → Neighbours → Ring
end_ring x nodes ends = linked Connection x (ring_of nodes ends)

-- the ring of a socket with an index at its end
abbrev pub on_ring : ℕ → ℕ → List Node → List Neighbours → Ring
on_ring s x nodes sockets = linked Socket x (socket_ring nodes sockets s)

-- the ring of a socket with an index at its end, which the list of all has at its end
abbrev pub on_both : ℕ → ℕ → List Node → List Neighbours → Neighbours → Ring
on_both s x nodes sockets ends = on_ring s x (end_ring x nodes ends).nodes sockets

-- with an index at the end of both
unfoldable pub put_on : ℕ → ℕ → Links → Links
put_on s x l =
    let r = end_ring x l.nodes l.ends in
    let q = on_ring s x r.nodes l.sockets in
    record l { nodes = q.nodes; sockets = set l.sockets s q.ends; ends = r.ends }

-- What an index that leaves its lists needs: that what stands beside it are indexes of nodes.
pub record CanLeave (x : ℕ) (nodes : List Node) (sockets : List Neighbours) : Type 0 where
  pub within : x < length nodes
  pub owned : (node_at nodes x).list < length sockets
  pub next : IsWithin (node_at nodes x).connection.next nodes
  pub previous : IsWithin (node_at nodes x).connection.previous nodes
  pub next_of : IsWithin (node_at nodes x).socket.next nodes
  pub previous_of : IsWithin (node_at nodes x).socket.previous nodes

-- What an index that comes to its lists needs: that the last ones are indexes of nodes.
pub record CanCome (s x : ℕ) (nodes : List Node) (sockets : List Neighbours) (ends : Neighbours) : Type 0 where
  pub within : x < length nodes
  pub owned : s < length sockets
  pub last : IsWithin ends.previous nodes
  pub last_of : IsWithin (get_or sockets s no_ends).previous nodes
