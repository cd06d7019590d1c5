use Rattle.std.proofs.Common.{sym, ap, ◌∙◌, arith}
use Rattle.rds_link.proofs.Steps.{learns, within}
use Rattle.rds_link.proofs.words.seat.EndSeat.learn.Goals as goal

pub load-requires : goal.load-requires
load-requires c =
    let i = c.self.invariant in
    let of = i.0 ∙ ap (λ t. t.shared.table_id) (sym c.deref.ensures) in
    (of, within of i.1 (omega arith), learns _ _ _)
