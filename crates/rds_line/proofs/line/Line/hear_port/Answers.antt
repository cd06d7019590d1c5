use Rattle.rds_line.proofs.Fields.{view_in}
use Rattle.rds_line.proofs.Keeping.{keeps_heard}
use Rattle.rds_line.proofs.line.Line.hear_port.Goals as goal

pub invariant_of-self : goal.invariant_of-self
invariant_of-self g c = (
  keeps_heard g.M.MapWriter.published (view_in c.self.inside) c.hear.new.self c.args.note.view c.requires.steps c.hear.ensures
      c.self.invariant.0,
  c.self.invariant.1,
)
