use Rattle.std.proofs.Common.{◌++◌, ap, ◌∙◌}
use Rattle.rds_conn.specs.Connection.{taken_bytes}
use Rattle.rds_line_channel.specs.Channel.{ChannelView}
use Rattle.rds_line_channel.proofs.Restated.{restated}
use Rattle.rds_line_channel.proofs.Starting.{carried_first}
use Rattle.rds_line_channel.proofs.channel.Channel.give_streams.Goals as goal

pub invariant_of-self : goal.invariant_of-self
invariant_of-self g c =
    let m = g.E.End.means in
    let is = c.self.view_is ∙ c.requires.new in
    restated m (ap (λ (v : ChannelView g.row.E.Denot). v.conn.log.past) is)
    (ap (λ (v : ChannelView g.row.E.Denot). taken_bytes v.conn ++ v.piece) is) (ap (λ (v : ChannelView g.row.E.Denot). v.out) is)
    c.new.ensures (ap (λ (v : ChannelView g.row.E.Denot). v.cuts.numbers) is) (carried_first m c.args.streams.items)
