use Rattle.std.proofs.Common.{refl, ap, ◌∙◌, arith}
use Rattle.rds_meter.specs.Seats.{after_lower}
use Rattle.rds_meter.proofs.Seated.{same_table, kept}
use Rattle.rds_meter.proofs.Bits.{lowers_by, lowered_port}
use Rattle.rds_meter.proofs.meter.Meter.clear.Goals as goal

pub fetch_and-requires : goal.fetch_and-requires
fetch_and-requires c =
    let of = same_table _ _ _ _ _ _ _ c.seat.view_is c.self.view_is c.requires in
    let place = c.place_of-word.ensures in
    let small = c.ranges.port.fits in
    let word = place.0 in
    (of, (let w = c.self.invariant.0 in omega arith), lowers_by _ _ c.args.port _ _ c.seat.inside.seat.me place.0 place.1 c.seat.invariant.0 (omega arith))

pub returns : goal.returns
returns c =
    let place = c.place_of-word.ensures in
    let done = c.fetch_and.ensures in
    let port = lowered_port c.args.port done.2.0 _ _ place.0 place.1 done.2.1 done.2.2 in
    kept _ _ _ _ _ _ (λ v. after_lower v c.args.port) c.seat.view_is done.0 (ap (λ m. m.0) done.2.3 ∙ ap (after_lower c.seat.inside.seat.me.0) port) refl
