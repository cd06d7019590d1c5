use Rattle.std.proofs.Common.{List, sym, subst}
use Rattle.rds_model.specs.declared.order.Datagram.{Datagram}
use Rattle.rds_mail.specs.Passes.{Putter}
use Rattle.rds_line.specs.Keeps.{IsPulled, KeepsLine}
use Rattle.rds_line.proofs.Fields.{view_in}
use Rattle.rds_line.proofs.line.Line.inbox_note.Goals as goal

pub invariant_of-self : goal.invariant_of-self
invariant_of-self g c =
    let v = view_in c.self.inside in
    subst (λ (boxes : List (Putter Datagram)). KeepsLine g.M.MapWriter.published (record v { boxes = boxes })
    × IsPulled c.self.inside.own_pulled (record v { boxes = boxes })) (sym c.note.ensures.same) c.self.invariant
