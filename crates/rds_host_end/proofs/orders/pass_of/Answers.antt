use Rattle.std.proofs.Common.{subst}
use Rattle.rds_fmap.specs.Readers.{ReaderView, WriterView}
use Rattle.rds_socket_parts.specs.Lanes.{Lane}
use Rattle.rds_host_end.specs.Shown.{HasLookedAt}
use Rattle.rds_host_end.proofs.orders.pass_of.Goals as goal

-- refused where the reader isn't joined
pub returns-clause-looks : goal.returns-clause-looks
returns-clause-looks c =
    subst (λ (lane : Lane ReaderView). HasLookedAt c.args.writer.now.published lane.reader) c.route.view_is
    (subst (λ (w : WriterView). HasLookedAt w.published c.route.inside.map) c.close.ensures.same (c.close.ensures.seen, c.close.ensures.ascend))
