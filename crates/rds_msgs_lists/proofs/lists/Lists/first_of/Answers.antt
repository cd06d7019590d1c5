use Rattle.std.proofs.Common.{◌≡◌, ◌<◌, ◌∙◌, length, sym, subst, ap, get_or}
use Rattle.std.proofs.lemmas.List.{get_or_read}
use Rattle.rds_msgs_lists.specs.declared.node.Neighbours.{Neighbours}
use Rattle.rds_msgs_lists.specs.Nodes.{no_ends}
use Rattle.rds_msgs_lists.specs.Lists.{ListsView, first_index, of_socket}
use Rattle.rds_msgs_lists.proofs.On.{first_of_if}
use Rattle.rds_msgs_lists.proofs.Views.{first_of_is}
use Rattle.rds_msgs_lists.proofs.lists.Lists.first_of.Goals as goal

pub returns : goal.returns
returns c =
    let sockets = c.self.inside.sockets.items in
    let i : c.args.socket < length sockets = subst (λ (v : ListsView). c.args.socket < v.sockets) (sym c.self.view_is) c.requires.socket in
    let e : c.index.result.now ≡ get_or sockets c.args.socket no_ends = get_or_read sockets c.args.socket c.index.result.now i c.index.ensures no_ends in
    let f = c.index-2.ensures ∙ (ap (λ (n : Neighbours). n.next) e ∙ subst (λ (v : ListsView). (get_or sockets c.args.socket no_ends).next ≡ first_index (of_socket c.args.socket v.places)) c.self.view_is (first_of_is _ _ _ c.self.invariant.keeps c.args.socket i)) in
    record { first = f; on = first_of_if c.args.self.now.places c.args.socket c.index-2.result f }
