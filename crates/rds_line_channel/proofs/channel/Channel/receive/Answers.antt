use Rattle.std.proofs.Common.{rules, ◌≡◌, true, [], ◌++◌, ap, ◌∙◌}
use Rattle.rds_conn.specs.Connection.{taken_bytes}
use Rattle.rds_line_channel.specs.Channel.{ChannelView}
use Rattle.rds_line_channel.proofs.Carrying.{carried_moved}
use Rattle.rds_line_channel.proofs.OpenEnd.{received_on}
use Rattle.rds_line_channel.proofs.channel.Channel.receive.Goals as goal

pub invariant_of-self : goal.invariant_of-self
invariant_of-self g c =
    let m = g.E.End.means in
    let i = c.self.inside in
    let past = i.conn.log.past in
    let taken = taken_bytes i.conn in
    let is_open = ap (λ (v : ChannelView g.row.E.Denot). v.streams.is_open) c.self.view_is in
    let on : i.streams.is_open ≡ true = is_open ∙ c.requires.open in
    let empty : i.piece ≡ [] = ap (λ (v : ChannelView g.row.E.Denot). v.piece) c.self.view_is ∙ c.requires.empty in
    let piece = c.receive.new.self in
    let new = c.receive.new.streams in
    let answer = c.receive.result in
    let did = c.receive.ensures in
    carried_moved m i.streams past (taken ++ i.piece) (taken ++ piece) i.out i.out i.cuts.numbers new did.same on did.received
    (λ tells n old later way. received_on m past tells n old later answer taken i.piece piece i.out empty way) c.self.invariant

pub returns-clause-received : goal.returns-clause-received
returns-clause-received g c = search rules
