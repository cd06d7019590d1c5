use Rattle.std.proofs.Common.{◌≡◌}
use Rattle.rds_conn.specs.Orders.{after_order}
use Rattle.rds_line_channel.proofs.Going.{carried_conn, goes_ordered}
use Rattle.rds_line_channel.proofs.channel.Channel.order.Goals as goal

pub invariant_of-self : goal.invariant_of-self
invariant_of-self g c =
    let i = c.self.inside in
    let new = c.order_uncounted.new.self in
    let entry : new ≡ record (after_order c.args.order i.conn) { freed = new.freed } = c.order_uncounted.ensures.entry in
    carried_conn g.E.End.means i.streams i.conn new i.piece i.out i.out i.cuts.numbers c.known.ensures
    (goes_ordered c.args.order i.conn new i.piece i.out entry) c.self.invariant
