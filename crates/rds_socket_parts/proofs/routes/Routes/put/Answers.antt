use Rattle.std.proofs.Common.{◌≡◌, List, [], ◌∷◌, ◌++◌, ap, ◌∙◌, set}
use Rattle.rds_mail.specs.Passes.{Putter}
use Rattle.rds_model.specs.declared.order.Order.{Order}
use Rattle.rds_socket_parts.specs.Lanes.{Lane, IsLaneAt, IsPutAt, with_order, RoutesStay}
use Rattle.rds_socket_parts.specs.ChangeLaws.{at_read, stay_put}
use Rattle.rds_socket_parts.proofs.routes.Routes.put.Goals as goal
use Rattle.rds_socket_parts.proofs.routes.Routes.put.Goals.{in-Ok, in-Err}

pub returns-clause-put : goal.returns-clause-put
returns-clause-put g c =
    let r = c.route.inside in
    let was : Lane g.row.R.Denot = record { peer = r.peer; pass = r.pass; reader = r.map } in
    let at : IsLaneAt c.args.self.now c.args.place was = at_read _ _ c.args.place was _ c.self.view_is c.requires c.route.view_is c.index_mut-route.ensures.value in
    elim c.match-put.branch [
      | in-Ok w ↦
          rw w.result-is (
            was,
            at,
            (ap (λ (q : Putter Order). set c.self.inside.routes.items c.args.place (record { peer = r.peer; pass = q; reader = r.map })) w.in-Ok.ensures.put)
                ∙ ap (λ (l : List (Lane g.row.R.Denot)). set l c.args.place (with_order was c.args.item)) c.self.view_is,
          )
      | in-Err w ↦ rw w.result-is tt
    ]

pub returns-clause-stay : goal.returns-clause-stay
returns-clause-stay g c =
    let r = c.route.inside in
    let was : Lane g.row.R.Denot = record { peer = r.peer; pass = r.pass; reader = r.map } in
    let at : IsLaneAt c.args.self.now c.args.place was = at_read _ _ c.args.place was _ c.self.view_is c.requires c.route.view_is c.index_mut-route.ensures.value in
    elim c.match-put.branch [
      | in-Ok w ↦ stay_put g.R.MapReader.pair g.R.MapReader.has_seen _ _ c.args.place was c.put.new.pass (r.pass.put ++ c.args.item ∷ []) c.self.view_is at c.requires w.in-Ok.ensures.put
      | in-Err w ↦ stay_put g.R.MapReader.pair g.R.MapReader.has_seen _ _ c.args.place was c.put.new.pass r.pass.put c.self.view_is at c.requires w.in-Err.ensures.same
    ]
