use Rattle.std.proofs.Common.{sym, ap, ◌∙◌, arith}
use Rattle.rds_link.proofs.Steps.{shuts, within}
use Rattle.rds_link.proofs.words.seat.EndSeat.shut.Goals as goal

pub compare_exchange-requires : goal.compare_exchange-requires
compare_exchange-requires c =
    let i = c.self.invariant in
    let of = i.0 ∙ ap (λ t. t.shared.table_id) (sym c.deref.ensures) in
    (of, within of i.1 (omega arith), shuts _ _ _ _ i.3 i.4)
