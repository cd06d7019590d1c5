use Rattle.std.proofs.Common.{sym, ◌∙◌, arith}
use Rattle.rds_bindtab.proofs.Seated.{same_table}
use Rattle.rds_bindtab.proofs.Looks.{learns}
use Rattle.rds_bindtab.proofs.table.BindTable.learn.Goals as goal

pub load-requires : goal.load-requires
load-requires c =
    let of = same_table _ _ _ _ _ _ c.seat.view_is c.self.view_is c.requires in
    (of.0, (let w = c.self.invariant.1 in omega arith), learns _ _ _ c.seat.inside.seat.me (of.1 ∙ sym c.self.invariant.0))
