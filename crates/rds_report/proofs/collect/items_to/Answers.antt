use Rattle.std.proofs.Common.{◌∙◌, List, filter, map, ap, sym}
use Rattle.std.proofs.lemmas.List.{take_all}
use Rattle.std.specs.List.{flat_map}
use Rattle.rds_text.specs.declared.final_state.HostEnd.{HostEnd}
use Rattle.rds_text.specs.FinalState.{FinalHost}
use Rattle.rds_text.specs.FinalViews.{host_view, host_views}
use Rattle.rds_report.specs.Items.{host_items, is_to}
use Rattle.rds_report.proofs.Parted.{filter_spread}
use Rattle.rds_report.proofs.collect.items_to.Goals as goal

pub returns : goal.returns
returns c =
    let ends = host_views c.args.hosts.now in
    c.loop-host.invariant
    ∙ ap (λ (l : List HostEnd). flat_map (λ (e : FinalHost). filter (is_to c.args.to) (host_items ends e)) (map host_view l))
    (take_all c.loop-host.host-index c.args.hosts.now c.loop-host-test.false)
    ∙ sym (filter_spread (is_to c.args.to) (host_items ends) ends)
