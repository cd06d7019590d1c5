-- Indexes on lists: what contracts see of them, and what every `Lists` keeps. Source: this project's own.
use Rattle.std.specs.Prelude.{◌≡◌, ℕ, zero, suc, ◌+◌, ◌-◌, ◌≤◌, ◌<◌, ◌==◌, max, Bool, cond, Option, Some, None, List, [], ◌∷◌, ◌++◌, length, map, filter}
use Rattle.rds_msgs_lists.specs.declared.lists.TheConstants.{MAX_INDEXES}
use Rattle.rds_msgs_lists.specs.declared.node.Node.{Node}
use Rattle.rds_msgs_lists.specs.declared.node.Neighbours.{Neighbours}
use Rattle.rds_msgs_lists.specs.declared.node.Side.{Side}
use Rattle.rds_msgs_lists.specs.declared.node.Side.TheVariants.{Connection, Socket}
use Rattle.rds_msgs_lists.specs.Nodes.{Ring, Links, ring_of, socket_ring, node_at, next_in, previous_in}

-- an index on the lists, and the socket on whose list it is
pub record Place : Type 0 where
  pub index : ℕ
  pub socket : ℕ

-- the indexes on the lists in the order of the list of all; how many lists of sockets there are; for how many more
-- indexes there is room; and how many were ever made
pub record ListsView : Type 0 where
  pub places : List Place
  pub sockets : ℕ
  pub spare : ℕ
  pub made : ℕ

-- how often a number stands in a list
abbrev pub times : ℕ → List ℕ → ℕ
times k [] = 0
times k (x ∷ xs) = cond (x == k) 1 0 + times k xs

-- the indexes
abbrev pub indexes : List Place → List ℕ
indexes places = map (λ (p : Place). p.index) places

-- an index is on the lists
abbrev pub IsOn : List Place → ℕ → Type 0
IsOn places k = 1 ≤ times k (indexes places)

-- no index is there twice
abbrev pub IsDistinct : List Place → Type 0
IsDistinct places = (k : ℕ) → times k (indexes places) ≤ 1

-- the index of the first place, if there is one
abbrev pub first_index : List Place → Option ℕ
first_index [] = None
first_index (p ∷ rest) = Some p.index

-- a place is on the list of a socket
abbrev pub is_of : ℕ → Place → Bool
is_of socket p = p.socket == socket

-- the places of a socket
abbrev pub of_socket : ℕ → List Place → List Place
of_socket socket places = filter (is_of socket) places

-- what holds wherever the index stands: of the places before it, its own, and those behind it
abbrev pub AtEach : List Place → ℕ → (List Place → Place → List Place → Type 0) → Type 0
AtEach places k P = (before : List Place) (p : Place) (rest : List Place) → places ≡ before ++ p ∷ rest → p.index ≡ k → P before p rest

-- the lists with an index at the end, of a socket
abbrev pub after_push : ℕ → ℕ → ListsView → ListsView
after_push k socket v = record v {
  places = v.places ++ record { index = k; socket = socket } ∷ [];
  spare = v.spare - 1;
  made = max v.made (k + 1);
}

-- at most so many indexes, from one on, each behind the one before it
abbrev pub walk : (Option ℕ → Option ℕ) → ℕ → Option ℕ → List ℕ
walk next zero o = []
walk next (suc n) None = []
walk next (suc n) (Some k) = k ∷ walk next n (next (Some k))

-- from a up to b these stand on a list, each behind the one before it: `next` and `previous` agree
abbrev pub Path : (Option ℕ → Option ℕ) → (Option ℕ → Option ℕ) → Option ℕ → List ℕ → Option ℕ → Type 0
Path next previous a [] b = (next a ≡ b) × (previous b ≡ a)
Path next previous a (x ∷ xs) b = (next a ≡ Some x) × (previous (Some x) ≡ a) × Path next previous (Some x) xs b

-- from the first on, each names the one behind it, and the last none
abbrev pub Chain : (Option ℕ → Option ℕ) → Option ℕ → List ℕ → Type 0
Chain next o [] = o ≡ None
Chain next o (x ∷ xs) = (o ≡ Some x) × Chain next (next (Some x)) xs

-- a whole list: from none to none
abbrev pub IsRing : Side → Ring → List ℕ → Type 0
IsRing side r xs = Path (next_in side r) (previous_in side r) None xs None

-- an index is on the list of a socket
abbrev pub is_in : List Node → ℕ → ℕ → Bool
is_in nodes s k = (node_at nodes k).list == s

-- the list of each socket is a ring, of those of an order that are its own
abbrev pub AreRings : List Node → List Neighbours → List ℕ → Type 0
AreRings nodes sockets order = (s : ℕ) → s < length sockets → IsRing Socket (socket_ring nodes sockets s) (filter (is_in nodes s) order)

-- the indexes on the list of all, in order
unfoldable pub order_of : Links → ℕ → List ℕ
order_of l used = walk (next_in Connection (ring_of l.nodes l.ends)) used l.ends.next

-- the free indexes
unfoldable pub frees_of : Links → ℕ → List ℕ
frees_of l used = walk (next_in Connection (ring_of l.nodes l.ends)) (length l.nodes - used) l.free

-- the places of indexes
abbrev pub places_of : List Node → List ℕ → List Place
places_of nodes order = map (λ (k : ℕ). record { index = k; socket = (node_at nodes k).list }) order

-- Of the nodes `order` are on the lists, and `frees` are free: none is on one of the two twice, or on both. The list of
-- all is a ring, and that of each socket too, of those that are its own.
pub record Keeps (l : Links) (order frees : List ℕ) : Type 0 where
  pub all : IsRing Connection (ring_of l.nodes l.ends) order
  pub sockets : AreRings l.nodes l.sockets order
  pub free_ones : Chain (next_in Connection (ring_of l.nodes l.ends)) l.free frees
  pub once : (k : ℕ) → times k order + times k frees ≤ 1
  pub within : (k : ℕ) → 1 ≤ times k order + times k frees → k < length l.nodes
  pub owned : (k : ℕ) → 1 ≤ times k order → (node_at l.nodes k).list < length l.sockets

-- What every `Lists` keeps, with room for `capacity` nodes in all: so of the indexes that walks give, which are all.
pub record IsLists (l : Links) (used spare capacity : ℕ) : Type 0 where
  pub keeps : Keeps l (order_of l used) (frees_of l used)
  pub count : length (order_of l used) ≡ used
  pub total : used + length (frees_of l used) ≡ length l.nodes
  pub few : length l.nodes ≤ MAX_INDEXES
  pub room : used + spare ≤ capacity

-- what contracts see
abbrev pub view_of : Links → ℕ → ℕ → ListsView
view_of l used spare = record {
  places = places_of l.nodes (order_of l used);
  sockets = length l.sockets;
  spare = spare;
  made = length l.nodes;
}
