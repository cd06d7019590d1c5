use Rattle.rds_socket_parts.specs.Lanes.{Lane, IsLaneAt}
use Rattle.rds_socket_parts.specs.ChangeLaws.{at_read}
use Rattle.rds_socket_parts.proofs.routes.Routes.note.Goals as goal

pub returns-clause-note : goal.returns-clause-note
returns-clause-note g c =
    let r = c.route.inside in
    let was : Lane g.row.R.Denot = record { peer = r.peer; pass = r.pass; reader = r.map } in
    (was, at_read _ _ c.args.place was _ c.self.view_is c.requires c.route.view_is c.index_mut-route.ensures.value, c.note.ensures.note)
