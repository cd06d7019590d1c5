use Rattle.std.proofs.Common.{◌∙◌, ◌++◌, ℕ, List, [], filter, map, refl, ap, sym}
use Rattle.std.proofs.lemmas.List.{append-nil}
use Rattle.std.specs.List.{flat_map}
use Rattle.rds_text.specs.declared.final_state.Kept.{Kept}
use Rattle.rds_text.specs.FinalState.{FinalJournal}
use Rattle.rds_text.specs.FinalViews.{host_view, host_views, side_view, socket_view}
use Rattle.rds_report.specs.Items.{is_to, side_items, socket_items}
use Rattle.rds_report.proofs.Gathered.{one_more}
use Rattle.rds_report.proofs.Parted.{host_kept, sockets_gone, sockets_kept}
use Rattle.rds_report.proofs.collect.add_host.Goals as goal

pub loop-peer-preserved : goal.loop-peer-preserved
loop-peer-preserved c =
    one_more (λ (s : FinalJournal). filter (is_to c.args.to) (side_items (host_views c.args.hosts.now) c.args.host.now.addr s)) side_view
    c.args.host.now.journals.items c.loop-peer.peer-index c.loop-peer-item.result _ _ _ _
    (rw c.deref-peer-items.ensures.value at c.loop-peer-test.true) (rw c.deref-peer-items.ensures.value at c.loop-peer-item.is)
    c.loop-peer.invariant c.in_ok-add_journal.ensures refl

pub returns-in_ok-add_sockets : goal.returns-in_ok-add_sockets
returns-in_ok-add_sockets c =
    let host = c.args.host.now in
    host_kept (host_views c.args.hosts.now) c.args.to (host_view host) c.args.items.now.items c.loop-peer.items.items c.add_sockets.new.items.items
    c.loop-peer.peer-index host.journals.items (flat_map (socket_items host.addr) (host_view host).sockets)
    (rw c.deref-peer-items.ensures.value at c.loop-peer-test.false) refl c.loop-peer.invariant
    (c.in_ok-add_sockets.ensures
    ∙ ap (λ (kept : List Kept). c.loop-peer.items.items ++ flat_map (socket_items c.args.to) (map socket_view kept)) c.deref.ensures.value
    ∙ ap (λ (to : ℕ). c.loop-peer.items.items ++ flat_map (socket_items to) (host_view host).sockets) (sym c.if-host-to.true))
    (sockets_kept c.args.to (host_view host) c.if-host-to.true)

pub returns-else-host-to : goal.returns-else-host-to
returns-else-host-to c =
    let host = c.args.host.now in
    host_kept (host_views c.args.hosts.now) c.args.to (host_view host) c.args.items.now.items c.loop-peer.items.items c.loop-peer.items.items
    c.loop-peer.peer-index host.journals.items []
    (rw c.deref-peer-items.ensures.value at c.loop-peer-test.false) refl c.loop-peer.invariant
    (sym (append-nil c.loop-peer.items.items))
    (sockets_gone c.args.to (host_view host) c.if-host-to.false)
