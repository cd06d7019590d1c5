use Rattle.std.proofs.Common.{◌≡◌, ℕ, ◌<◌, ◌≤◌, ◌+◌, ◌-◌, max, [], ◌∷◌, ◌∙◌, ◌++◌, take, drop, length, arith, sym, subst, ap}
use Rattle.rds_msgs_lists.specs.declared.lists.TheConstants.{MAX_INDEXES}
use Rattle.rds_msgs_lists.specs.Nodes.{Links, put_on, placed, index_from}
use Rattle.rds_msgs_lists.specs.Lists.{ListsView, IsOn, IsLists, view_of}
use Rattle.rds_msgs_lists.proofs.Calls.{used_is, node_for, can_put, lists_on, view_on, off_before, on_is_put, written}
use Rattle.rds_msgs_lists.proofs.lists.Lists.push.Goals as goal
use Rattle.rds_msgs_lists.proofs.lists.Lists.push.Goals.{After-put}

pub take_node-at-requires-clause-within : goal.take_node-at-requires-clause-within
take_node-at-requires-clause-within c = (node_for _ _ _ _ c.args.socket c.self.invariant).free_within

pub take_node-at-requires-clause-few : goal.take_node-at-requires-clause-few
take_node-at-requires-clause-few c none =
    let u = (node_for _ _ _ _ c.args.socket c.self.invariant).none_free none in
    let p = used_is _ _ _ _ c.self.invariant in
    let v = ap (λ (v : ListsView). length v.places) c.self.view_is in
    omega (arith, c.requires.few)

pub take_node-at-requires-clause-room : goal.take_node-at-requires-clause-room
take_node-at-requires-clause-room c none =
    let u = (node_for _ _ _ _ c.args.socket c.self.invariant).none_free none in
    let v = ap (λ (v : ListsView). v.spare) c.self.view_is in
    omega (arith, c.requires.room, c.self.invariant.room)

pub put-requires-clause-can : goal.put-requires-clause-can
put-requires-clause-can c =
    let i = subst (λ (v : ListsView). c.args.socket < v.sockets) (sym c.self.view_is) c.requires.socket in
    rw (c.take_node-at.ensures.at, c.deref_mut.ensures.value, c.take_node-at.ensures.nodes, c.deref_mut-2.ensures.value)
    (can_put _ _ _ _ c.args.socket c.self.invariant i)

abbrev links : (c : After-put) → Links
links c = record { nodes = c.self.inside.nodes.items; sockets = c.self.inside.sockets.items; ends = c.self.inside.ends; free = c.self.inside.free }

abbrev links' : (c : After-put) → Links
links' c = record {
  nodes = take c.take_node-at.new.nodes.len (c.put.new.nodes ++ drop (length c.put.new.nodes) c.take_node-at.new.nodes.items);
  sockets = take c.self.inside.sockets.len (c.put.new.sockets ++ drop (length c.put.new.sockets) c.self.inside.sockets.items);
  ends = c.put.new.ends;
  free = c.take_node-at.new.free;
}

after : (c : After-put) → links' c ≡ put_on c.args.socket (index_from c.self.inside.free c.self.inside.nodes.items) (placed c.args.socket (links c))
after c =
    let n : length c.put.new.nodes ≡ c.take_node-at.new.nodes.len = omega arith in
    let m : length c.put.new.sockets ≡ c.self.inside.sockets.len = omega arith in
    let e = c.put.ensures in
    let a = c.take_node-at.ensures in
    on_is_put (links c) c.args.socket c.take_node-at.result c.deref_mut.result.now _ c.deref_mut-2.result.now _ _ _ a.at (c.deref_mut.ensures.value ∙ a.nodes) c.deref_mut-2.ensures.value
    e.ends (written _ _ _ n ∙ e.nodes) (written _ _ _ m ∙ e.sockets) a.free

few : (c : After-put) → c.self.inside.used < MAX_INDEXES
few c =
    let p = used_is _ _ _ _ c.self.invariant in
    let v = ap (λ (v : ListsView). length v.places) c.self.view_is in
    omega (arith, c.requires.few)

pub invariant_of-self : goal.invariant_of-self
invariant_of-self c =
    let d = (goal.at.invariant_of-self c).After-put in
    let i = subst (λ (v : ListsView). c.args.socket < v.sockets) (sym c.self.view_is) c.requires.socket in
    let r = subst (λ (v : ListsView). 1 ≤ v.spare) (sym c.self.view_is) c.requires.room in
    subst (λ (l : Links). IsLists l (c.self.inside.used + 1) (c.self.inside.spare - 1) c.take_node-at.new.nodes.cap) (sym (after d))
    (rw c.take_node-at.ensures.capacity (lists_on _ _ _ _ c.args.socket c.self.invariant i (few d) r))

pub returns-clause-pushed : goal.returns-clause-pushed
returns-clause-pushed c =
    let d = (goal.at.returns-clause-pushed c).After-put in
    let i = subst (λ (v : ListsView). c.args.socket < v.sockets) (sym c.self.view_is) c.requires.socket in
    let x = index_from c.self.inside.free c.self.inside.nodes.items in
    let f = subst (λ (v : ListsView). view_of (put_on c.args.socket x (placed c.args.socket (links d))) (c.self.inside.used + 1) (c.self.inside.spare - 1)
    ≡ record { places = v.places ++ record { index = x; socket = c.args.socket } ∷ []; sockets = v.sockets; spare = v.spare - 1; made = max v.made (x + 1) }) c.self.view_is
    (view_on _ _ _ _ c.args.socket c.self.invariant i) in
    let e : c.to.result ≡ x = c.to.ensures ∙ c.take_node-at.ensures.at in
    rw e (ap (λ (l : Links). view_of l (c.self.inside.used + 1) (c.self.inside.spare - 1)) (after d) ∙ f)

pub returns-clause-off : goal.returns-clause-off
returns-clause-off c on =
    let e = c.to.ensures ∙ c.take_node-at.ensures.at in
    let x = index_from c.self.inside.free c.self.inside.nodes.items in
    let o = subst (λ (k : ℕ). IsOn c.args.self.now.places k) e on in
    off_before _ _ _ _ c.args.socket c.self.invariant (subst (λ (v : ListsView). IsOn v.places x) (sym c.self.view_is) o)

pub returns-clause-next : goal.returns-clause-next
returns-clause-next c =
    let e = c.to.ensures ∙ c.take_node-at.ensures.at in
    let n = (node_for _ _ _ _ c.args.socket c.self.invariant).next in
    let v = ap (λ (v : ListsView). v.made) c.self.view_is in
    omega arith

pub returns-clause-all_used : goal.returns-clause-all_used
returns-clause-all_used c same =
    let e = c.to.ensures ∙ c.take_node-at.ensures.at in
    let v = ap (λ (v : ListsView). v.made) c.self.view_is in
    let w = ap (λ (v : ListsView). length v.places) c.self.view_is in
    let p = used_is _ _ _ _ c.self.invariant in
    let u = (node_for _ _ _ _ c.args.socket c.self.invariant).all_used (omega arith) in
    omega arith
