use Rattle.std.proofs.Common.{arith}
use Rattle.rds_meter.proofs.Seated.{same_table}
use Rattle.rds_meter.proofs.Bits.{bumps}
use Rattle.rds_meter.proofs.meter.Meter.bump.Goals as goal

pub fetch_add-found-requires : goal.fetch_add-found-requires
fetch_add-found-requires c =
    let of = same_table _ _ _ _ _ _ _ c.seat.view_is c.self.view_is c.requires in
    (of, (let w = c.self.invariant.0 in omega arith), bumps _ _ c.seat.inside.seat.me c.seat.invariant.0)
