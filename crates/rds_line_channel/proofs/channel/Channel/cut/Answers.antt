use Rattle.std.proofs.Common.{◌≡◌, ◌⊎◌, ℕ, [], ◌∷◌, ◌++◌, is_some, length, true, refl, sym, ap, subst, ◌∙◌}
use Rattle.std.proofs.lemmas.Bool.{false_from_ne_true, false≢true}
use Rattle.std.proofs.lemmas.Option.{same_Some}
use Rattle.rds_conn.specs.Connection.{Connection, taken_bytes}
use Rattle.rds_line_channel.specs.Channel.{ChannelView, CutsView}
use Rattle.rds_line_channel.proofs.Ending.{carried_cut, carried_late, ended_is_open}
use Rattle.rds_line_channel.proofs.Restated.{is_shut, kept_inside, none_left, open_inside, restated}
use Rattle.rds_line_channel.proofs.channel.Channel.cut.Goals as goal

pub invariant_of-self : goal.invariant_of-self
invariant_of-self g c =
    let m = g.E.End.means in
    let inside = c.self.inside in
    let s = inside.streams in
    let past = inside.conn.log.past in
    let arrived = taken_bytes inside.conn ++ inside.piece in
    let cuts = inside.cuts.numbers in
    let given = c.give_up.ensures in
    let piece = c.give_up.new.piece in
    let now = c.give_up.new.streams in
    let number = given.streams.change.number in
    let stream_is = c.in-Some.ensures {u = tt} in
    let on = (open_inside c.self.view_is c.known.ensures.open).1 (ap is_some (sym stream_is)) in
    let kept = kept_inside m c.self.view_is c.known.ensures.streams in
    let is_open = ended_is_open m past arrived inside.out cuts s c.self.invariant kept on now given.streams in
    let number_is : c.in-Some.number ≡ number = same_Some c.in-Some.number number (stream_is ∙ is_open) in
    let conn_is = is_shut inside.conn c.shut.new.self number is_open c.shut.ensures in
    let noted : c.push.new.self.numbers ≡ cuts ++ c.in-Some.number ∷ [] = ap (λ (v : CutsView). v.numbers) c.push.ensures in
    restated m (ap (λ (conn : Connection). conn.log.past) conn_is)
    (ap (λ (conn : Connection). taken_bytes conn ++ piece) conn_is ∙ given.piece) given.out refl
    (noted ∙ ap (λ (n : ℕ). cuts ++ n ∷ []) number_is)
    (carried_cut m past arrived inside.out cuts s c.self.invariant kept on now given.streams)

pub invariant_of-self-in-None : goal.invariant_of-self-in-None
invariant_of-self-in-None g c =
    let inside = c.self.inside in
    let s = inside.streams in
    let arrived = taken_bytes inside.conn ++ inside.piece in
    let cuts = inside.cuts.numbers in
    let off = λ (on : s.is_open ≡ true).
    false≢true (ap is_some (c.in-None.ensures {u = tt}) ∙ (open_inside c.self.view_is c.known.ensures.open).0 on) in
    let is_last = λ (v : ChannelView g.row.E.Denot). (v.streams.is_open ≡ true) ⊎ (v.streams.opened ≡ length v.streams.list) in
    let last = none_left s off (subst is_last (sym c.self.view_is) c.requires.last) in
    restated g.E.End.means refl refl refl refl (ap (λ (w : CutsView). w.numbers) c.push-in-None.ensures)
    (carried_late g.E.End.means inside.conn.log.past arrived inside.out cuts s (false_from_ne_true s.is_open off) last c.self.invariant)
