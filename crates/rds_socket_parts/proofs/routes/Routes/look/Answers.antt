use Rattle.std.proofs.Common.{◌≡◌, ◌<◌, ap, sym, subst, length}
use Rattle.std.specs.Prelude.{List, slice_set}
use Rattle.rds_socket_parts.specs.Lanes.{Lane, Fixed, IsLaneAt, HasSeen, RoutesStay, with_reader}
use Rattle.rds_socket_parts.specs.ChangeLaws.{at_read, stay_in}
use Rattle.rds_socket_parts.specs.PlaceLaws.{here}
use Rattle.rds_socket_parts.proofs.routes.Routes.look.Goals as goal

pub returns-clause-look : goal.returns-clause-look
returns-clause-look g c =
    let r = c.route.inside in
    let was : Lane g.row.R.Denot = record { peer = r.peer; pass = r.pass; reader = r.map } in
    let at : IsLaneAt c.args.self.now c.args.place was = at_read _ _ c.args.place was _ c.self.view_is c.requires c.route.view_is c.index_mut-route.ensures.value in
    (was, c.bit.new.self, at, c.bit.ensures.look, ap (λ (l : List (Lane g.row.R.Denot)). slice_set l c.args.place (with_reader was c.bit.new.self)) c.self.view_is)

pub returns-clause-seen : goal.returns-clause-seen
returns-clause-seen g c =
    let r = c.route.inside in
    let now : Lane g.row.R.Denot = record { peer = r.peer; pass = r.pass; reader = c.bit.new.self } in
    let small : c.args.place < length c.self.inside.routes.items = subst (λ (l : List (Lane g.row.R.Denot)). c.args.place < length l) (sym c.self.view_is) c.requires in
    (now, here c.self.inside.routes.items c.args.place now small, c.bit.ensures.now)

pub returns-clause-stay : goal.returns-clause-stay
returns-clause-stay g c =
    let r = c.route.inside in
    let was : Lane g.row.R.Denot = record { peer = r.peer; pass = r.pass; reader = r.map } in
    let at : IsLaneAt c.args.self.now c.args.place was = at_read _ _ c.args.place was _ c.self.view_is c.requires c.route.view_is c.index_mut-route.ensures.value in
    stay_in g.R.MapReader.pair g.R.MapReader.has_seen _ _ c.args.place was (with_reader was c.bit.new.self) c.self.view_is at c.requires
    (ap (λ p. record { peer = r.peer; mail = r.pass.mail; number = r.pass.number; splits = r.pass.splits; pair = p }) c.bit.ensures.pair) c.bit.ensures.kept
