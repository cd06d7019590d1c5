use Rattle.std.proofs.Common.{ap, ◌∙◌}
use Rattle.rds_line.specs.Line.{LineView}
use Rattle.rds_line.proofs.line.Line.me.Goals as goal

pub returns : goal.returns
returns g c = c.me.ensures ∙ ap (λ (l : LineView g.row.E.Denot g.row.M.Denot). l.channel.conn.me) c.self.view_is
