use Rattle.std.proofs.Common.{ap, ◌∙◌}
use Rattle.rds_line.specs.Line.{LineView}
use Rattle.rds_line.proofs.line.Line.peer.Goals as goal

pub returns : goal.returns
returns g c = c.peer.ensures ∙ ap (λ (l : LineView g.row.E.Denot g.row.M.Denot). l.channel.conn.peer) c.self.view_is
