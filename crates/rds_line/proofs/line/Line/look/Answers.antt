use Rattle.rds_line.proofs.Fields.{view_in}
use Rattle.rds_line.proofs.Pulled.{keeps_own, pulled_own}
use Rattle.rds_line.proofs.line.Line.look.Goals as goal

pub invariant_of-self : goal.invariant_of-self
invariant_of-self g c = (
  keeps_own g.M.MapWriter.published (view_in c.self.inside) c.refresh-read.new.self c.refresh-read.new.words c.refresh-read.result
      c.refresh-read.ensures.refresh c.refresh-read.ensures.parts c.self.invariant.0,
  λ noted s on. absurd (cc),
)

pub invariant_of-self-else-read : goal.invariant_of-self-else-read
invariant_of-self-else-read g c = (
  keeps_own g.M.MapWriter.published (view_in c.self.inside) c.refresh-read.new.self c.refresh-read.new.words c.refresh-read.result
      c.refresh-read.ensures.refresh c.refresh-read.ensures.parts c.self.invariant.0,
  pulled_own (view_in c.self.inside) c.refresh-read.new.self c.refresh-read.new.words c.self.inside.own_pulled c.refresh-read.result
      c.refresh-read.ensures.refresh c.if-read.false c.self.invariant.1,
)
