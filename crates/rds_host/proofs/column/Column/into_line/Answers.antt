use Rattle.std.proofs.Common.{◌≡◌, List, [], All, sym, subst}
use Rattle.rds_model.specs.declared.order.Datagram.{Datagram}
use Rattle.rds_mail.specs.Passes.{Putter}
use Rattle.rds_host.proofs.column.Column.into_line.Goals as goal

pub new-requires-2-clause-put : goal.new-requires-2-clause-put
new-requires-2-clause-put g c =
    subst (λ (l : List (Putter Datagram)). All (λ b. b.put ≡ []) l) (sym c.new.ensures) c.self.invariant.boxes
