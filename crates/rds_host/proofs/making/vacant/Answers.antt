use Rattle.std.proofs.Common.{sym, ap, subst, ◌∙◌}
use Rattle.rds_socket_parts.specs.Lanes.{Ascend}
use Rattle.rds_host.specs.Ties.{peers_to}
use Rattle.rds_host.proofs.Columns.{lanes_peers}
use Rattle.rds_host.proofs.making.vacant.Goals as goal

pub into_vacant-requires-clause-ascend : goal.into_vacant-requires-clause-ascend
into_vacant-requires-clause-ascend c =
    subst Ascend (sym (lanes_peers c.in_ok-routes.routes.items ∙ ap peers_to c.in_ok-routes.ensures.ways)) c.requires.ascend
