use Rattle.std.proofs.Common.{ap, arith}
use Rattle.rds_bindtab.specs.Seats.{PortSeat}
use Rattle.rds_bindtab.proofs.Seated.{same_table}
use Rattle.rds_bindtab.proofs.Notes.{splits_off}
use Rattle.rds_bindtab.proofs.table.BindTable.split.Goals as goal

pub split_seat-new-requires : goal.split_seat-new-requires
split_seat-new-requires c =
    let of = same_table _ _ _ _ _ _ c.seat.view_is c.self.view_is c.requires.table in
    let left = ap (λ (h : PortSeat). h.view.splits) c.seat.view_is in
    (of.0, (let w = c.self.invariant.1 in omega arith), splits_off _ _ c.seat.inside.seat.me.0 (let r = c.requires.splits in omega arith))
