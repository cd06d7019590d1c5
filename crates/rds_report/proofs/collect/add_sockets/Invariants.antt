use Rattle.std.proofs.Common.{◌≡◌, ◌++◌, map, take}
use Rattle.std.specs.List.{flat_map}
use Rattle.rds_text.specs.FinalViews.{socket_view}
use Rattle.rds_report.specs.Items.{socket_items}
use Rattle.rds_report.proofs.collect.add_sockets.Given as goal

abbrev pub invariant-loop-kept : goal.invariant-loop-kept
invariant-loop-kept l =
    l.items.items ≡ l.fn.items.items ++ flat_map (socket_items l.addr) (map socket_view (take l.kept-index l.sockets))
