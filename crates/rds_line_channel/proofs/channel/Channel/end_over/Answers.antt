use Rattle.std.proofs.Common.{◌≡◌, ◌++◌, true, refl, sym, ap, subst, ◌∙◌}
use Rattle.rds_conn.specs.Connection.{Connection, taken_bytes}
use Rattle.rds_line_channel.specs.Streams.{EndAt, HasSaidOver, newest_place}
use Rattle.rds_line_channel.specs.Channel.{ChannelView}
use Rattle.rds_line_channel.proofs.Ending.{carried_over, ended_is_open}
use Rattle.rds_line_channel.proofs.Restated.{is_shut, kept_inside, restated}
use Rattle.rds_line_channel.proofs.channel.Channel.end_over.Goals as goal

pub invariant_of-self : goal.invariant_of-self
invariant_of-self g c =
    let m = g.E.End.means in
    let inside = c.self.inside in
    let s = inside.streams in
    let past = inside.conn.log.past in
    let arrived = taken_bytes inside.conn ++ inside.piece in
    let cuts = inside.cuts.numbers in
    let given = c.give_up.ensures in
    let piece = c.give_up.new.piece in
    let now = c.give_up.new.streams in
    let view_is = c.self.view_is in
    let on : s.is_open ≡ true = ap (λ (v : ChannelView g.row.E.Denot). v.streams.is_open) view_is ∙ c.requires.open in
    let said_at = λ (v : ChannelView g.row.E.Denot). EndAt (HasSaidOver m) (newest_place v.streams) v.streams.list in
    let over = subst said_at (sym view_is) c.requires.over in
    let kept = kept_inside m view_is c.known.ensures.streams in
    let is_open = ended_is_open m past arrived inside.out cuts s c.self.invariant kept on now given.streams in
    let number = given.streams.change.number in
    let conn_is = is_shut inside.conn c.shut.new.self number is_open c.shut.ensures in
    restated m (ap (λ (conn : Connection). conn.log.past) conn_is)
    (ap (λ (conn : Connection). taken_bytes conn ++ piece) conn_is ∙ given.piece) given.out refl refl
    (carried_over m past arrived inside.out cuts s c.self.invariant kept on now given.streams over)
