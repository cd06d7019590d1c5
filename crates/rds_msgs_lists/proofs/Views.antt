-- What contracts see of lists, from what nodes keep.
use Rattle.std.proofs.Common.{◌≡◌, ◌≤◌, ◌<◌, ◌+◌, ◌-◌, inl, inr, ℕ, Some, None, List, [], ◌∷◌, ◌++◌, length, arith, refl, sym, ap, ◌∙◌, get_or, filter, subst}
use Rattle.std.proofs.lemmas.Bool.{cases_Bool}
use Rattle.rds_msgs_lists.specs.declared.lists.TheConstants.{MAX_INDEXES}
use Rattle.rds_msgs_lists.specs.declared.node.Node.{Node}
use Rattle.rds_msgs_lists.specs.declared.node.Side.TheVariants.{Connection, Socket}
use Rattle.rds_msgs_lists.specs.Nodes.{Links, node_at, next_in, previous_in, ring_of, socket_ring, CanLeave, CanCome, no_ends}
use Rattle.rds_msgs_lists.specs.Lists.{Place, times, indexes, IsOn, AtEach, first_index, of_socket, IsRing, Keeps, IsLists, is_in, order_of, frees_of, places_of, view_of}
use Rattle.rds_msgs_lists.proofs.Counts.{split_at, times_first, times-append}
use Rattle.rds_msgs_lists.proofs.Paths.{head, walk_path, walk_chain, path_split, path_head}
use Rattle.rds_msgs_lists.proofs.All.{AreWithin, beside, last_within}
use Rattle.rds_msgs_lists.proofs.Sockets.{filter_in, own_within}

-- walks give the two lists
pub order_is : (l : Links) (order frees : List ℕ) → Keeps l order frees → (used : ℕ) → length order ≡ used → order_of l used ≡ order
unfolding order_of
order_is l order frees h used e =
    rw (← e) (walk_path (next_in Connection (ring_of l.nodes l.ends)) (previous_in Connection (ring_of l.nodes l.ends)) None order None h.all)

pub frees_is : (l : Links) (order frees : List ℕ) → Keeps l order frees → (used : ℕ) → used + length frees ≡ length l.nodes → frees_of l used ≡ frees
unfolding frees_of
frees_is l order frees h used e =
    let n : length l.nodes - used ≡ length frees = omega arith in
    rw n (walk_chain (next_in Connection (ring_of l.nodes l.ends)) l.free frees h.free_ones)

pub lists_by : (l : Links) (order frees : List ℕ) (used spare capacity : ℕ) → Keeps l order frees → length order ≡ used → used + length frees ≡ length l.nodes
    → length l.nodes ≤ MAX_INDEXES → used + spare ≤ capacity → IsLists l used spare capacity
lists_by l order frees used spare capacity h n t few room =
    let o = order_is l order frees h used n in
    let f = frees_is l order frees h used t in
    record {
      keeps = rw (o, f) h;
      count = rw o n;
      total = rw f t;
      few = few;
      room = room;
    }

pub view_by : (l : Links) (order frees : List ℕ) (used spare : ℕ) → Keeps l order frees → length order ≡ used
    → view_of l used spare ≡ record { places = places_of l.nodes order; sockets = length l.sockets; spare = spare; made = length l.nodes }
view_by l order frees used spare h n = rw (order_is l order frees h used n) refl

-- the places of indexes have these indexes
pub indexes_of : (nodes : List Node) (order : List ℕ) → indexes (places_of nodes order) ≡ order
indexes_of nodes [] = refl
indexes_of nodes (x ∷ xs) = ap (λ (ys : List ℕ). x ∷ ys) (indexes_of nodes xs)

pub on_is : (nodes : List Node) (order : List ℕ) (k : ℕ) → IsOn (places_of nodes order) k → 1 ≤ times k order
on_is nodes order k h = let e = indexes_of nodes order in omega (arith, ap (times k) e)

pub is_on : (nodes : List Node) (order : List ℕ) (k : ℕ) → 1 ≤ times k order → IsOn (places_of nodes order) k
is_on nodes order k h = let e = indexes_of nodes order in omega (arith, ap (times k) e)

-- how indexes are cut where their places are
pub record Cut (nodes : List Node) (order : List ℕ) (before : List Place) (p : Place) (rest : List Place) : Type 0 where
  pub ys : List ℕ
  pub zs : List ℕ
  pub whole : order ≡ ys ++ p.index ∷ zs
  pub front : before ≡ places_of nodes ys
  pub back : rest ≡ places_of nodes zs
  pub its : (node_at nodes p.index).list ≡ p.socket

pub cut : (nodes : List Node) (order : List ℕ) (before : List Place) (p : Place) (rest : List Place) → places_of nodes order ≡ before ++ p ∷ rest → Cut nodes order before p rest
cut nodes [] [] p rest h = cc
cut nodes [] (b ∷ before) p rest h = cc
cut nodes (x ∷ order) [] p rest h =
    let e : record { index = x; socket = (node_at nodes x).list } ≡ p = cc in
    let f : places_of nodes order ≡ rest = cc in
    let i : x ≡ p.index = ap (λ (q : Place). q.index) e in
    record {
      ys = [];
      zs = order;
      whole = ap (λ (k : ℕ). k ∷ order) i;
      front = refl;
      back = sym f;
      its = ap (λ (k : ℕ). (node_at nodes k).list) (sym i) ∙ ap (λ (q : Place). q.socket) e;
    }
cut nodes (x ∷ order) (b ∷ before) p rest h =
    let e : record { index = x; socket = (node_at nodes x).list } ≡ b = cc in
    let f : places_of nodes order ≡ before ++ p ∷ rest = cc in
    let c = cut nodes order before p rest f in
    record {
      ys = x ∷ c.ys;
      zs = c.zs;
      whole = ap (λ (ks : List ℕ). x ∷ ks) c.whole;
      front = (let g : before ≡ places_of nodes c.ys = c.front in cc);
      back = c.back;
      its = c.its;
    }

pub first_of_places : (nodes : List Node) (xs : List ℕ) → first_index (places_of nodes xs) ≡ head xs
first_of_places nodes [] = refl
first_of_places nodes (x ∷ xs) = refl

pub own_places : (nodes : List Node) (s : ℕ) (xs : List ℕ) → of_socket s (places_of nodes xs) ≡ places_of nodes (filter (is_in nodes s) xs)
own_places nodes s [] = refl
own_places nodes s (x ∷ xs) =
    let h = own_places nodes s xs in
    elim (cases_Bool (is_in nodes s x)) [
      | inl y ↦ rw y (ap (λ (ps : List Place). record { index = x; socket = (node_at nodes x).list } ∷ ps) h)
      | inr n ↦ rw n h
    ]

-- the first on the list of all, and on a socket's
pub first_is : (l : Links) (order frees : List ℕ) → Keeps l order frees → l.ends.next ≡ first_index (places_of l.nodes order)
first_is l order frees h = path_head (next_in Connection (ring_of l.nodes l.ends)) (previous_in Connection (ring_of l.nodes l.ends)) None order h.all ∙ sym (first_of_places l.nodes order)

pub first_of_is : (l : Links) (order frees : List ℕ) → Keeps l order frees → (s : ℕ) → s < length l.sockets → (get_or l.sockets s no_ends).next ≡ first_index (of_socket s (places_of l.nodes order))
first_of_is l order frees h s i =
    let r = socket_ring l.nodes l.sockets s in
    rw (own_places l.nodes s order)
    (path_head (next_in Socket r) (previous_in Socket r) None (filter (is_in l.nodes s) order) (h.sockets s i) ∙ sym (first_of_places l.nodes (filter (is_in l.nodes s) order)))

-- what stands behind an index
pub after_is : (l : Links) (order frees : List ℕ) → Keeps l order frees → (k : ℕ) → AtEach (places_of l.nodes order) k (λ before p rest. (node_at l.nodes k).connection.next ≡ first_index rest)
after_is l order frees h k before p rest e same =
    let c = cut l.nodes order before p rest e in
    let r = ring_of l.nodes l.ends in
    let a : IsRing Connection r (c.ys ++ p.index ∷ c.zs) = subst (λ (xs : List ℕ). IsRing Connection r xs) c.whole h.all in
    let s = path_split (next_in Connection r) (previous_in Connection r) None c.ys p.index c.zs None a in
    rw (← same, c.back) (path_head (next_in Connection r) (previous_in Connection r) (Some p.index) c.zs s.1 ∙ sym (first_of_places l.nodes c.zs))

pub after_of_is : (l : Links) (order frees : List ℕ) → Keeps l order frees → (k : ℕ)
    → AtEach (places_of l.nodes order) k (λ before p rest. (node_at l.nodes k).socket.next ≡ first_index (of_socket p.socket rest))
after_of_is l order frees h k before p rest e same =
    let c = cut l.nodes order before p rest e in
    let m = times-append p.index c.ys (p.index ∷ c.zs) in
    let f = times_first p.index c.zs in
    let on : 1 ≤ times p.index order = rw c.whole (omega arith) in
    let is : p.socket < length l.sockets = rw (← c.its) (h.owned p.index on) in
    let r = socket_ring l.nodes l.sockets p.socket in
    let own = λ (xs : List ℕ). filter (is_in l.nodes p.socket) xs in
    let w : own order ≡ own c.ys ++ p.index ∷ own c.zs = ap own c.whole ∙ filter_in l.nodes p.socket p.index c.ys c.zs c.its in
    let a : IsRing Socket r (own c.ys ++ p.index ∷ own c.zs) = subst (λ (xs : List ℕ). IsRing Socket r xs) w (h.sockets p.socket is) in
    let s = path_split (next_in Socket r) (previous_in Socket r) None (own c.ys) p.index (own c.zs) None a in
    rw (← same, c.back, own_places l.nodes p.socket c.zs)
    (path_head (next_in Socket r) (previous_in Socket r) (Some p.index) (own c.zs) s.1 ∙ sym (first_of_places l.nodes (own c.zs)))

-- an index on the lists can leave them
pub can_leave : (l : Links) (order frees : List ℕ) → Keeps l order frees → (x : ℕ) → 1 ≤ times x order → CanLeave x l.nodes l.sockets
can_leave l order frees h x on =
    let c = split_at x order on in
    let w : AreWithin l.nodes order = λ k i. h.within k (omega arith) in
    let r = ring_of l.nodes l.ends in
    let s = (node_at l.nodes x).list in
    let q = socket_ring l.nodes l.sockets s in
    let own = λ (xs : List ℕ). filter (is_in l.nodes s) xs in
    let f : own order ≡ own c.0 ++ x ∷ own c.1 = ap own c.2 ∙ filter_in l.nodes s x c.0 c.1 refl in
    let b = beside Connection r c.0 x c.1 (subst (λ (xs : List ℕ). AreWithin l.nodes xs) c.2 w) (subst (λ (xs : List ℕ). IsRing Connection r xs) c.2 h.all) in
    let d = beside Socket q (own c.0) x (own c.1) (subst (λ (xs : List ℕ). AreWithin l.nodes xs) f (own_within l.nodes s order w)) (subst (λ (xs : List ℕ). IsRing Socket q xs) f (h.sockets s (h.owned x on))) in
    record {
      within = w x on;
      owned = h.owned x on;
      next = b.within_next;
      previous = b.within_previous;
      next_of = d.within_next;
      previous_of = d.within_previous;
    }

-- an index of a node can come to a socket's list
pub can_come : (l : Links) (order frees : List ℕ) → Keeps l order frees → (x s : ℕ) → x < length l.nodes → s < length l.sockets → CanCome s x l.nodes l.sockets l.ends
can_come l order frees h x s i j =
    let w : AreWithin l.nodes order = λ k i. h.within k (omega arith) in
    record {
      within = i;
      owned = j;
      last = last_within Connection (ring_of l.nodes l.ends) order w h.all;
      last_of = last_within Socket (socket_ring l.nodes l.sockets s) (filter (is_in l.nodes s) order) (own_within l.nodes s order w) (h.sockets s j);
    }
