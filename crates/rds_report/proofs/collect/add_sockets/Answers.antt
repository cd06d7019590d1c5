use Rattle.std.proofs.Common.{refl}
use Rattle.rds_text.specs.FinalViews.{socket_view}
use Rattle.rds_report.specs.Items.{socket_items}
use Rattle.rds_report.proofs.Gathered.{two_more}
use Rattle.rds_report.proofs.collect.add_sockets.Goals as goal

pub loop-kept-preserved : goal.loop-kept-preserved
loop-kept-preserved c =
    two_more (socket_items c.args.addr) socket_view c.args.sockets.now c.loop-kept.kept-index c.kept-item.result _ _ _ _ _ _
    c.loop-kept-test.true c.kept-item.is c.loop-kept.invariant c.in_ok-add_received.ensures c.in_ok-add_unread.ensures
    (rw (c.deref.ensures.value, c.deref-in-loop-kept.ensures.value) refl)
