use Rattle.std.proofs.Common.{ap, ◌∙◌}
use Rattle.rds_model.specs.declared.order.Order.{Order}
use Rattle.rds_mail.specs.Passes.{Getter, after_note}
use Rattle.rds_line.specs.Line.{LineView}
use Rattle.rds_line.proofs.Fields.{view_in}
use Rattle.rds_line.proofs.Keeping.{keeps_told}
use Rattle.rds_line.proofs.line.Line.hear_orders.Goals as goal

pub invariant_of-self : goal.invariant_of-self
invariant_of-self g c = (
  keeps_told g.M.MapWriter.published (view_in c.self.inside) c.hear.new.self (ap (λ (h : Getter Order). h.got) c.hear.ensures)
      c.self.invariant.0,
  c.self.invariant.1,
)

pub returns : goal.returns
returns g c =
    ap (λ (h : Getter Order). record (view_in c.self.inside) { orders = h }) c.hear.ensures
    ∙ ap (λ (l : LineView g.row.E.Denot g.row.M.Denot). record l { orders = after_note l.orders c.args.note }) c.self.view_is
