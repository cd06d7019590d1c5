use Rattle.std.proofs.Common.{◌≡◌, ◌∙◌, subst}
use Rattle.rds_msgs_lists.specs.Lists.{ListsView, first_index}
use Rattle.rds_msgs_lists.proofs.On.{first_if}
use Rattle.rds_msgs_lists.proofs.Views.{first_is}
use Rattle.rds_msgs_lists.proofs.lists.Lists.first.Goals as goal

pub returns : goal.returns
returns c =
    let e = c.index.ensures ∙ subst (λ (v : ListsView). c.self.inside.ends.next ≡ first_index v.places) c.self.view_is (first_is _ _ _ c.self.invariant.keeps) in
    record { first = e; on = first_if c.args.self.now.places c.index.result e }
