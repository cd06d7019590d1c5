use Rattle.std.proofs.Common.{◌≡◌, ◌-◌, ◌∙◌, ◌++◌, take, drop, length, arith, sym, subst, ap, List, ◌∷◌}
use Rattle.rds_msgs_lists.specs.Nodes.{Links, taken_off}
use Rattle.rds_msgs_lists.specs.Lists.{Place, ListsView, AtEach, IsOn, IsLists, view_of}
use Rattle.rds_msgs_lists.proofs.Calls.{within_is, lists_off, view_off, off_is, written}
use Rattle.rds_msgs_lists.proofs.On.{has_place, only_places}
use Rattle.rds_msgs_lists.proofs.Views.{on_is, can_leave}
use Rattle.rds_msgs_lists.proofs.lists.Lists.remove.Goals as goal
use Rattle.rds_msgs_lists.proofs.lists.Lists.remove.Goals.{After-take_off}

pub take_off-requires-clause-few : goal.take_off-requires-clause-few
take_off-requires-clause-few c =
    let w = within_is _ _ _ _ c.self.invariant c.args.at (subst (λ (v : ListsView). IsOn v.places c.args.at) (sym c.self.view_is) c.requires.on) in
    omega (arith, c.get.ensures, c.self.invariant.few)

pub take_off-requires-clause-can : goal.take_off-requires-clause-can
take_off-requires-clause-can c =
    let on = subst (λ (v : ListsView). IsOn v.places c.args.at) (sym c.self.view_is) c.requires.on in
    rw (c.get.ensures, c.deref_mut.ensures.value, c.deref_mut-2.ensures.value) (can_leave _ _ _ c.self.invariant.keeps c.args.at (on_is _ _ c.args.at on))

abbrev links : (c : After-take_off) → Links
links c = record { nodes = c.self.inside.nodes.items; sockets = c.self.inside.sockets.items; ends = c.self.inside.ends; free = c.self.inside.free }

abbrev links' : (c : After-take_off) → Links
links' c = record {
  nodes = take c.self.inside.nodes.len (c.take_off.new.nodes ++ drop (length c.take_off.new.nodes) c.self.inside.nodes.items);
  sockets = take c.self.inside.sockets.len (c.take_off.new.sockets ++ drop (length c.take_off.new.sockets) c.self.inside.sockets.items);
  ends = c.take_off.new.ends;
  free = c.take_off.new.free;
}

after : (c : After-take_off) → links' c ≡ taken_off c.args.at (links c)
after c =
    let n : length c.take_off.new.nodes ≡ c.self.inside.nodes.len = omega arith in
    let m : length c.take_off.new.sockets ≡ c.self.inside.sockets.len = omega arith in
    let e = c.take_off.ensures in
    off_is (links c) c.args.at c.get.result c.deref_mut.result.now _ c.deref_mut-2.result.now _ _ _ c.get.ensures c.deref_mut.ensures.value c.deref_mut-2.ensures.value
    e.ends (written _ _ _ n ∙ e.nodes) (written _ _ _ m ∙ e.sockets) e.free

pub invariant_of-self : goal.invariant_of-self
invariant_of-self c =
    let on = subst (λ (v : ListsView). IsOn v.places c.args.at) (sym c.self.view_is) c.requires.on in
    let e = after (goal.at.invariant_of-self c).After-take_off in
    subst (λ (l : Links). IsLists l (c.self.inside.used - 1) c.self.inside.spare c.self.inside.nodes.cap) (sym e)
    (lists_off _ _ _ _ c.args.at c.self.invariant (on_is _ _ c.args.at on))

pub returns : goal.returns
returns c =
    let d = (goal.at.returns c).After-take_off in
    let e = after d in
    let f = subst (λ (v : ListsView). AtEach v.places c.args.at (λ b p r. view_of (taken_off c.args.at (links d)) (c.self.inside.used - 1) c.self.inside.spare ≡ record v { places = b ++ r })) c.self.view_is
    (view_off _ _ _ _ c.args.at c.self.invariant) in
    let n = λ (before : List Place) (p : Place) (rest : List Place) (g : c.args.self.now.places ≡ before ++ p ∷ rest) (same : p.index ≡ c.args.at).
    ap (λ (l : Links). view_of l (c.self.inside.used - 1) c.self.inside.spare) e ∙ f before p rest g same in
    let h = has_place c.args.self.now.places c.args.at c.requires.on in
    record { removed = n; rest = only_places c.args.self.now _ _ (n h.before h.place h.rest h.whole h.its) }
