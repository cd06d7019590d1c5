use Rattle.std.proofs.Common.{arith}
use Rattle.rds_bindtab.proofs.Seated.{same_table}
use Rattle.rds_bindtab.proofs.Notes.{notes_steps}
use Rattle.rds_bindtab.proofs.table.BindTable.note_steps.Goals as goal

pub split_seat-seat-requires : goal.split_seat-seat-requires
split_seat-seat-requires c =
    let of = same_table _ _ _ _ _ _ c.of.view_is c.self.view_is c.requires in
    (of.0, (let w = c.self.invariant.1 in omega arith), notes_steps _ _ c.of.inside.seat.me.0)
