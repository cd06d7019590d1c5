use Rattle.std.proofs.Common.{List, [], ◌∷◌, ◌++◌, ap, ◌∙◌}
use Rattle.rds_model.specs.declared.order.Order.{Order}
use Rattle.rds_mail.specs.Passes.{Putter}
use Rattle.rds_host.proofs.Columns.{all_putters}
use Rattle.rds_host.proofs.column.passes.Goals as goal

pub returns : goal.returns
returns c =
    c.in_ok-push.ensures.items
    ∙ (ap (λ (l : List (Putter Order)). l ++ c.add_later.new.put ∷ []) c.reverse.ensures.items
    ∙ all_putters c.args.queue.now.line c.args.slots c.add_later.new.passes.items c.add_later.new.put c.requires.some c.in_ok-add_later.ensures.passes c.in_ok-add_later.ensures.put)
