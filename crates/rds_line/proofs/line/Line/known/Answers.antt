use Rattle.std.proofs.Common.{◌≡◌, None, subst}
use Rattle.rds_frame.specs.Splitting.{IsPartial}
use Rattle.rds_model.specs.Legal.{IsWhole}
use Rattle.rds_line_channel.specs.Carried.{IsCarriedBy}
use Rattle.rds_line_channel.specs.Channel.{arrived_bytes}
use Rattle.rds_line_channel.specs.Streams.{AreKept}
use Rattle.rds_line.specs.Keeps.{KeepsLine}
use Rattle.rds_line.specs.Line.{LineView, line_past}
use Rattle.rds_line.proofs.line.Line.known.Goals as goal

pub returns : goal.returns
returns g c =
    let m = g.E.End.means in
    let is = c.self.view_is in
    let known = c.known.ensures in
    record {
      keeps = subst (λ (l : LineView g.row.E.Denot g.row.M.Denot). KeepsLine g.M.MapWriter.published l) is c.self.invariant.0;
      carried =
          subst (λ (l : LineView g.row.E.Denot g.row.M.Denot). IsCarriedBy m (line_past l) (arrived_bytes l.channel) l.channel.out l.channel.streams l.channel.cuts.numbers)
          is known.carried;
      streams = subst (λ (l : LineView g.row.E.Denot g.row.M.Denot). AreKept m l.channel.streams) is known.streams;
      whole = subst (λ (l : LineView g.row.E.Denot g.row.M.Denot). IsWhole (line_past l)) is known.whole;
      partial = subst (λ (l : LineView g.row.E.Denot g.row.M.Denot). l.channel.conn.waiting ≡ None → IsPartial l.channel.conn.rest) is known.partial;
    }
