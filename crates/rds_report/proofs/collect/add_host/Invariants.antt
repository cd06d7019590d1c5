use Rattle.std.proofs.Common.{◌≡◌, ◌++◌, filter, map, take}
use Rattle.std.specs.List.{flat_map}
use Rattle.rds_text.specs.FinalState.{FinalJournal}
use Rattle.rds_text.specs.FinalViews.{side_view, host_views}
use Rattle.rds_report.specs.Items.{is_to, side_items}
use Rattle.rds_report.proofs.collect.add_host.Given as goal

abbrev pub invariant-loop-peer : goal.invariant-loop-peer
invariant-loop-peer l =
    l.items.items ≡ l.fn.items.items
    ++ flat_map (λ (s : FinalJournal). filter (is_to l.to) (side_items (host_views l.hosts) l.host.addr s)) (map side_view (take l.peer-index l.host.journals.items))
