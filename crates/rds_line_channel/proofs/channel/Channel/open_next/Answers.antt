use Rattle.std.proofs.Common.{◌≡◌, ◌++◌, false, refl, sym, ap, ◌∙◌}
use Rattle.rds_conn.specs.Connection.{Connection, taken_bytes}
use Rattle.rds_line_channel.specs.Channel.{ChannelView}
use Rattle.rds_line_channel.proofs.Restated.{kept_inside, legal_inside, restated}
use Rattle.rds_line_channel.proofs.Starting.{newest_below, carried_opened}
use Rattle.rds_line_channel.proofs.channel.Channel.open_next.Goals as goal

pub open-requires-clause-newer : goal.open-requires-clause-newer
open-requires-clause-newer g c =
    let inside = c.self.inside in
    newest_below inside.conn.log.past inside.streams c.in-Some.number c.self.invariant.opened c.in-Some.ensures.above

pub invariant_of-self : goal.invariant_of-self
invariant_of-self g c =
    let m = g.E.End.means in
    let inside = c.self.inside in
    let s = inside.streams in
    let past = inside.conn.log.past in
    let arrived = taken_bytes inside.conn ++ inside.piece in
    let cuts = inside.cuts.numbers in
    let view_is = c.self.view_is in
    let off : s.is_open ≡ false = ap (λ (v : ChannelView g.row.E.Denot). v.streams.is_open) view_is ∙ c.requires.closed in
    let legal = legal_inside view_is c.known.ensures.whole in
    let kept = kept_inside m view_is c.known.ensures.streams in
    let number = c.in-Some.number in
    let newer = newest_below past s number c.self.invariant.opened c.in-Some.ensures.above in
    restated m (ap (λ (conn : Connection). conn.log.past) c.open.ensures)
    (ap (λ (conn : Connection). taken_bytes conn ++ inside.piece) c.open.ensures) refl c.in-Some.ensures.opened refl
    (carried_opened m past arrived inside.out s cuts c.self.invariant off kept legal number (sym c.in-Some.ensures.number) newer)
