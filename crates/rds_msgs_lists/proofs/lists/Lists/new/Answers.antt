use Rattle.std.proofs.Common.{◌≡◌, ◌∙◌, length, ap, refl}
use Rattle.std.proofs.lemmas.List.{length-replicate}
use Rattle.rds_msgs_lists.specs.Nodes.{no_ends}
use Rattle.rds_msgs_lists.specs.Lists.{order_of}
use Rattle.rds_msgs_lists.proofs.Calls.{none_yet, all_none}
use Rattle.rds_msgs_lists.proofs.lists.Lists.new.Goals as goal

pub invariant_of-result : goal.invariant_of-result
invariant_of-result c =
    let e = all_none _ _ _ _ _ c.in_ok-resize.ensures.items c.new-ends.ensures.items c.new-ends.ensures.len c.none.ensures in
    rw (c.new.ensures.items, c.none-2.ensures, c.none-3.ensures) (none_yet c.resize.new.self.items c.args.sockets _ e)

pub returns : goal.returns
unfolding order_of
returns c =
    let e = all_none _ _ _ _ _ c.in_ok-resize.ensures.items c.new-ends.ensures.items c.new-ends.ensures.len c.none.ensures in
    let n : length c.resize.new.self.items ≡ c.args.sockets = ap length e ∙ length-replicate c.args.sockets no_ends in
    record { empty = rw (c.new.ensures.items, n) refl }
