use Rattle.std.proofs.Common.{◌≡◌, true, ◌++◌, take, drop, ap, ◌∙◌}
use Rattle.std.proofs.lemmas.List.{take-append-drop}
use Rattle.rds_link.specs.declared.end.Put.TheVariants as put
use Rattle.rds_link.specs.Answers.{bytes_put}
use Rattle.rds_conn.specs.Connection.{taken_bytes}
use Rattle.rds_line_channel.specs.Channel.{ChannelView}
use Rattle.rds_line_channel.proofs.Carrying.{carried_moved}
use Rattle.rds_line_channel.proofs.OpenEnd.{none_put, sent_on}
use Rattle.rds_line_channel.proofs.channel.Channel.write.Goals as goal

pub invariant_of-self : goal.invariant_of-self
invariant_of-self g c =
    let m = g.E.End.means in
    let i = c.self.inside in
    let past = i.conn.log.past in
    let arrived = taken_bytes i.conn ++ i.piece in
    let is_open = ap (λ (v : ChannelView g.row.E.Denot). v.streams.is_open) c.self.view_is in
    let on : i.streams.is_open ≡ true = is_open ∙ c.requires.open in
    let n = c.in-Took.n in
    let sent = take n c.rest.result.now in
    let rest = c.took.new.self in
    let behind : rest ≡ drop n i.out = c.took.ensures in
    let left = ap (λ l. take n i.out ++ l) behind ∙ take-append-drop n i.out in
    let whole : sent ++ rest ≡ i.out = ap (λ l. take n l ++ rest) c.rest.ensures ∙ left in
    let new = c.send-put.new.self in
    carried_moved m i.streams past arrived arrived i.out rest i.cuts.numbers new c.send-put.ensures.same on c.in-Took.ensures.sent
    (λ tells k old later way. sent_on m past tells k old later (put.Took n) arrived i.out sent rest whole way) c.self.invariant

pub invariant_of-self-in_default : goal.invariant_of-self-in_default
invariant_of-self-in_default g c =
    let m = g.E.End.means in
    let i = c.self.inside in
    let past = i.conn.log.past in
    let arrived = taken_bytes i.conn ++ i.piece in
    let is_open = ap (λ (v : ChannelView g.row.E.Denot). v.streams.is_open) c.self.view_is in
    let on : i.streams.is_open ≡ true = is_open ∙ c.requires.open in
    let answer = c.send-put.result in
    let bytes = c.rest.result.now in
    let sent = take (bytes_put answer) bytes in
    let whole : sent ++ i.out ≡ i.out = ap (λ k. take k bytes ++ i.out) (none_put answer c.in_default.not-Took) in
    let new = c.send-put.new.self in
    let did = c.send-put.ensures in
    carried_moved m i.streams past arrived arrived i.out i.out i.cuts.numbers new did.same on did.sent
    (λ tells k old later way. sent_on m past tells k old later answer arrived i.out sent i.out whole way) c.self.invariant
