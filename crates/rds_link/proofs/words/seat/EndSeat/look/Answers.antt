use Rattle.std.proofs.Common.{sym, ap, ◌∙◌, arith}
use Rattle.rds_link.proofs.Steps.{looks, within}
use Rattle.rds_link.proofs.words.seat.EndSeat.look.Goals as goal

pub load-found-requires : goal.load-found-requires
load-found-requires c =
    let i = c.self.invariant in
    let of = i.0 ∙ ap (λ t. t.shared.table_id) (sym c.deref.ensures) in
    (of, within of i.1 (omega arith), looks _ _ _)
