use Rattle.std.proofs.Common.{◌≡◌, filter, map, take}
use Rattle.std.specs.List.{flat_map}
use Rattle.rds_text.specs.FinalState.{FinalHost}
use Rattle.rds_text.specs.FinalViews.{host_view, host_views}
use Rattle.rds_report.specs.Items.{host_items, is_to}
use Rattle.rds_report.proofs.collect.items_to.Given as goal

abbrev pub invariant-loop-host : goal.invariant-loop-host
invariant-loop-host l =
    l.items.items ≡ flat_map (λ (e : FinalHost). filter (is_to l.to) (host_items (host_views l.hosts) e)) (map host_view (take l.host-index l.hosts))
