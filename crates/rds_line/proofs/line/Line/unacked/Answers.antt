use Rattle.std.proofs.Common.{length, ap, ◌∙◌}
use Rattle.rds_model.specs.Alive.{alive_numbers}
use Rattle.rds_line.specs.Line.{LineView, line_past}
use Rattle.rds_line.proofs.line.Line.unacked.Goals as goal

pub returns : goal.returns
returns g c =
    c.unacked.ensures ∙ ap (λ (l : LineView g.row.E.Denot g.row.M.Denot). length (alive_numbers (line_past l))) c.self.view_is
