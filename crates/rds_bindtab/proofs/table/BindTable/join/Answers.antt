use Rattle.std.proofs.Common.{ap, ◌∙◌, arith}
use Rattle.rds_bindtab.specs.Seats.{PortSeat}
use Rattle.rds_bindtab.proofs.Seated.{same_table}
use Rattle.rds_bindtab.proofs.Joins.{joins}
use Rattle.rds_bindtab.proofs.table.BindTable.join.Goals as goal

pub join_seat-requires : goal.join_seat-requires
join_seat-requires c =
    let of = same_table _ _ _ _ _ _ c.into.view_is c.self.view_is c.requires.table.0 in
    let from = same_table _ _ _ _ _ _ c.from.view_is c.self.view_is c.requires.table.1 in (
      of.0,
      from.0,
      c.from.invariant.3,
      (let w = c.self.invariant.1 in omega arith),
      joins _ _ _ c.into.inside.seat.me.0 c.from.inside.seat.me.0 (ap (λ (h : PortSeat). h.view.port) c.from.view_is ∙ c.requires.port),
    )
