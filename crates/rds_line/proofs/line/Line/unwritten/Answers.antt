use Rattle.std.proofs.Common.{length, ap, ◌∙◌}
use Rattle.rds_line.specs.Line.{LineView}
use Rattle.rds_line.proofs.line.Line.unwritten.Goals as goal

pub returns : goal.returns
returns g c = c.unwritten.ensures ∙ ap (λ (l : LineView g.row.E.Denot g.row.M.Denot). length l.channel.out) c.self.view_is
