use Rattle.std.proofs.Common.{ap, ◌∙◌}
use Rattle.rds_line.specs.Line.{LineView, line_past}
use Rattle.rds_line.proofs.line.Line.journal.Goals as goal

pub returns : goal.returns
returns g c = record {
  past = c.journal.ensures.past ∙ ap (λ (l : LineView g.row.E.Denot g.row.M.Denot). line_past l) c.self.view_is;
  limit = c.journal.ensures.limit ∙ ap (λ (l : LineView g.row.E.Denot g.row.M.Denot). l.channel.conn.log.limit) c.self.view_is;
}
