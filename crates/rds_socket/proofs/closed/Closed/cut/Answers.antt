use Rattle.std.proofs.Common.{sym, ap, subst}
use Rattle.rds_model.specs.declared.order.Order.{Order}
use Rattle.rds_socket.specs.Holding.{Holding}
use Rattle.rds_socket_parts.specs.Lanes.{IsOf}
use Rattle.rds_socket_parts.specs.Refusals.{AskRefused}
use Rattle.rds_socket.proofs.Orders.{of_ask, put_seen, refused_seen}
use Rattle.rds_socket.proofs.Kept.{ended_routes}
use Rattle.rds_socket.proofs.Staying.{holds_routes}
use Rattle.rds_socket.proofs.closed.Closed.cut.Goals as goal

pub invariant_of-self : goal.invariant_of-self
invariant_of-self g c =
    let slot = c.self.inside.words.slot in
    ended_routes _ c.ask.new.self (of_ask slot (AskRefused c.args.peer c.self.inside.routes) c.ask.result c.args.peer _ _ _ (subst (λ (o : Order). IsOf slot o) (sym c.new.ensures) tt) c.ask.ensures.put c.ask.ensures.refused c.self.invariant.held.orders) c.self.invariant

pub returns-clause-stays : goal.returns-clause-stays
returns-clause-stays g c = holds_routes g.R.MapReader.pair g.R.MapReader.has_seen _ _ c.ask.new.self c.self.view_is c.ask.ensures.stay

pub returns-clause-put : goal.returns-clause-put
returns-clause-put g c = put_seen c.ask.result c.args.peer _ _ _ _ _ c.new.ensures (ap (λ (h : Holding g.row.R.Denot). h.routes) c.self.view_is) c.ask.ensures.put

pub returns-clause-refused : goal.returns-clause-refused
returns-clause-refused g c = refused_seen c.ask.result c.args.peer _ _ _ (ap (λ (h : Holding g.row.R.Denot). h.routes) c.self.view_is) c.ask.ensures.refused
