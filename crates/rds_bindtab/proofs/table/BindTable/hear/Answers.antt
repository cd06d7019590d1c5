use Rattle.std.proofs.Common.{arith}
use Rattle.rds_bindtab.proofs.Seated.{same_table}
use Rattle.rds_bindtab.proofs.Joins.{joins}
use Rattle.rds_bindtab.proofs.table.BindTable.hear.Goals as goal

pub join_seat-requires : goal.join_seat-requires
join_seat-requires c =
    let of = same_table _ _ _ _ _ _ c.to.view_is c.self.view_is c.requires.table in
    let from = same_table _ _ _ _ _ _ c.note.view_is c.self.view_is c.requires.note in
    (of.0, from.0, c.note.invariant.0, (let w = c.self.invariant.1 in omega arith), joins _ _ _ c.to.inside.seat.me.0 c.note.inside.seat.me.0 c.note.invariant.1)
