use Rattle.std.proofs.lemmas.Grind.{common_steps}
use Rattle.std.proofs.Common.{arith, rules, ◌≡◌, ℕ, List, ◌∷◌, ◌++◌, Err, take, true, refl, sym, ap, ◌∙◌}
use Rattle.std.proofs.lemmas.Option.{same_Some}
use Rattle.rds_model.specs.declared.entry.Entry.TheVariants as entry
use Rattle.rds_conn.specs.Connection.{Connection, taken_bytes}
use Rattle.rds_line_channel.specs.Channel.{ChannelView}
use Rattle.rds_line_channel.proofs.Ending.{carried_refused, ended_is_open}
use Rattle.rds_line_channel.proofs.Restated.{kept_inside, legal_inside, restated}
use Rattle.rds_line_channel.proofs.channel.Channel.take.Goals as goal

pub invariant_of-self-in-Err-Malformed : goal.invariant_of-self-in-Err-Malformed
invariant_of-self-in-Err-Malformed g c =
    let m = g.E.End.means in
    let inside = c.self.inside in
    let s = inside.streams in
    let past = inside.conn.log.past in
    let taken = taken_bytes inside.conn in
    let arrived = taken ++ inside.piece in
    let cuts = inside.cuts.numbers in
    let given = c.give_up.ensures in
    let piece = c.give_up.new.piece in
    let now = c.give_up.new.streams in
    let number = given.streams.change.number in
    let view_is = c.self.view_is in
    let fault = c.in-Err-Malformed.field-0-0 in
    let refuses = c.feed.ensures.malformed fault (c.in-Err-Malformed.is ∙ ap Err c.in-Err-Malformed.field-0-is) in
    let header = refuses.header in
    let on : s.is_open ≡ true = ap (λ (v : ChannelView g.row.E.Denot). v.streams.is_open) view_is ∙ c.requires.open in
    let kept = kept_inside m view_is c.known.ensures.streams in
    let legal = legal_inside view_is c.known.ensures.whole in
    let is_open = ended_is_open m past arrived inside.out cuts s c.self.invariant kept on now given.streams in
    let number_is : refuses.s ≡ number = same_Some refuses.s number (sym refuses.on ∙ is_open) in
    let bytes = refuses.bytes ∙ ap (λ (l : List ℕ). taken ++ take refuses.used l) c.bytes.ensures in
    let refused = carried_refused m past arrived inside.out cuts s c.self.invariant kept on now given.streams header fault in
    let entry_is = ap (λ (conn : Connection). conn.log.past) refuses.entry in
    restated m (entry_is ∙ ap (λ (n : ℕ). entry.Bad n header fault ∷ past) number_is)
    (ap (λ (conn : Connection). taken_bytes conn ++ piece) refuses.entry ∙ given.piece) given.out refl refl
    (refused taken inside.piece refuses.used refl legal refuses.fits bytes)

pub invariant_of-self : goal.invariant_of-self
invariant_of-self g c = grind (arith, common_steps)

pub returns-after-fed-clause-frame : goal.returns-after-fed-clause-frame
returns-after-fed-clause-frame g c = search rules

pub returns-in-Err-Malformed-clause-part : goal.returns-in-Err-Malformed-clause-part
returns-in-Err-Malformed-clause-part g c = search rules

pub invariant_of-self-in-Err : goal.invariant_of-self-in-Err
invariant_of-self-in-Err g c = search rules

pub returns-in-Err : goal.returns-in-Err
returns-in-Err g c = search rules
