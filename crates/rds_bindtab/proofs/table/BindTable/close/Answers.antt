use Rattle.std.proofs.Common.{arith}
use Rattle.rds_bindtab.proofs.table.BindTable.close.Goals as goal

pub free-requires : goal.free-requires
free-requires c k below =
    let counts = c.close_with.ensures.counts.1 in
    let none = c.self.invariant.2 in
    absurd (omega arith)
