use Rattle.std.proofs.Common.{◌≡◌, ℕ, ◌<◌, ◌∙◌, ◌++◌, ◌∷◌, List, length, arith, sym, subst, ap}
use Rattle.std.proofs.lemmas.List.{get_or_read}
use Rattle.rds_msgs_lists.specs.declared.node.Node.{Node}
use Rattle.rds_msgs_lists.specs.Nodes.{node_at, no_node}
use Rattle.rds_msgs_lists.specs.Lists.{Place, ListsView, AtEach, IsOn, first_index}
use Rattle.rds_msgs_lists.proofs.On.{after_if}
use Rattle.rds_msgs_lists.proofs.Calls.{within_is}
use Rattle.rds_msgs_lists.proofs.Views.{after_is}
use Rattle.rds_msgs_lists.proofs.lists.Lists.after.Goals as goal

pub index-requires : goal.index-requires
index-requires c =
    let w = within_is _ _ _ _ c.self.invariant c.args.at (subst (λ (v : ListsView). IsOn v.places c.args.at) (sym c.self.view_is) c.requires.on) in
    omega (arith, c.get.ensures, c.self.inside.nodes.ok.0)

pub returns : goal.returns
returns c =
    let w = within_is _ _ _ _ c.self.invariant c.args.at (subst (λ (v : ListsView). IsOn v.places c.args.at) (sym c.self.view_is) c.requires.on) in
    let nodes = c.self.inside.nodes.items in
    let i : c.get.result < length nodes = omega (arith, c.get.ensures) in
    let e : c.index.result.now ≡ node_at nodes c.get.result = get_or_read nodes c.get.result c.index.result.now i c.index.ensures no_node in
    let f = subst (λ (v : ListsView). AtEach v.places c.args.at (λ b p r. (node_at nodes c.args.at).connection.next ≡ first_index r)) c.self.view_is (after_is _ _ _ c.self.invariant.keeps c.args.at) in
    let n = λ (before : List Place) (p : Place) (rest : List Place) (g : c.args.self.now.places ≡ before ++ p ∷ rest) (same : p.index ≡ c.args.at). c.index-2.ensures ∙ (ap (λ (n : Node). n.connection.next) e ∙ (ap (λ (k : ℕ). (node_at nodes k).connection.next) c.get.ensures ∙ f before p rest g same)) in
    record { next = n; on = after_if c.args.self.now.places c.args.at c.index-2.result c.requires.on n }
