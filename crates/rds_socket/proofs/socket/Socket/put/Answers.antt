use Rattle.std.proofs.Common.{rules, ◌∙◌, ap}
use Rattle.rds_model.specs.declared.order.Order.TheVariants as order
use Rattle.rds_socket.specs.Holding.{Open}
use Rattle.rds_socket.specs.Sends.{order_of}
use Rattle.rds_socket.proofs.Sends.{put_at_seen}
use Rattle.rds_socket.proofs.socket.Socket.put.Goals as goal

pub returns-clause-put : goal.returns-clause-put
returns-clause-put g c =
    let s = c.self.inside in
    put_at_seen c.args.place _ _ _ _ _
    (c.new-item.ensures ∙ (ap (λ n. order.Send n s.port c.args.dport c.args.payload) c.slot.ensures.slot ∙ ap (λ (o : Open g.row.R.Denot). order_of o c.args.dport c.args.payload) c.self.view_is))
    (ap (λ (o : Open g.row.R.Denot). o.own.routes) c.self.view_is) c.in_default.ensures.put

pub returns-in-Err-clause-same : goal.returns-in-Err-clause-same
returns-in-Err-clause-same g c = search rules
