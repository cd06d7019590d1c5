use Rattle.std.proofs.Common.{ap}
use Rattle.rds_socket.specs.Holding.{Open}
use Rattle.rds_socket.proofs.Orders.{of_look_up, routes_length, look_seen, none_seen}
use Rattle.rds_socket.proofs.Kept.{open_routes}
use Rattle.rds_socket.proofs.Staying.{stays_routes}
use Rattle.rds_socket.proofs.socket.Socket.congested.Goals as goal

pub invariant_of-self : goal.invariant_of-self
invariant_of-self g c =
    open_routes _ c.look_up.new.self
    (of_look_up c.self.inside.words.slot g.R.MapReader.is_look c.look_up.result c.args.peer c.args.port _ _ c.look_up.ensures.look c.look_up.ensures.none c.self.invariant.held.orders)
    (routes_length g.R.MapReader.pair g.R.MapReader.has_seen _ _ c.look_up.ensures.stay) c.self.invariant

pub returns-clause-stays : goal.returns-clause-stays
returns-clause-stays g c = stays_routes g.R.MapReader.pair g.R.MapReader.has_seen _ _ c.look_up.new.self c.self.view_is c.look_up.ensures.stay

pub returns-clause-look : goal.returns-clause-look
returns-clause-look g c = look_seen g.R.MapReader.is_look c.look_up.result c.args.peer c.args.port _ _ _ (ap (λ (o : Open g.row.R.Denot). o.own.routes) c.self.view_is) c.look_up.ensures.look

pub returns-clause-none : goal.returns-clause-none
returns-clause-none g c = none_seen c.look_up.result c.args.peer _ _ c.look_up.new.self (ap (λ (o : Open g.row.R.Denot). o.own.routes) c.self.view_is) c.look_up.ensures.none
