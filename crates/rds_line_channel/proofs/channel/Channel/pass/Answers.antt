use Rattle.rds_conn.specs.Passing.{Passes}
use Rattle.rds_line_channel.proofs.Going.{carried_conn, goes_passed}
use Rattle.rds_line_channel.proofs.channel.Channel.pass.Goals as goal

pub invariant_of-self : goal.invariant_of-self
invariant_of-self g c =
    let i = c.self.inside in
    let new = c.pass_uncounted.new.self in
    let legal = c.known.ensures.whole.legal in
    let passes : Passes c.args.found i.conn new = c.pass_uncounted.ensures.passes in
    carried_conn g.E.End.means i.streams i.conn new i.piece i.out i.out i.cuts.numbers c.known-2.ensures
    (goes_passed c.args.found i.conn new i.piece i.out legal passes) c.self.invariant
