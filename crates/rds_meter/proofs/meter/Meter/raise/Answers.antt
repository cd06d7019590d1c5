use Rattle.std.proofs.Common.{◌<◌, refl, ap, ◌∙◌, arith, rules}
use Rattle.rds_meter.specs.Seats.{MeterSeat, after_raise}
use Rattle.rds_meter.proofs.Seated.{same_table, kept}
use Rattle.rds_meter.proofs.Bits.{raises_by, raised_port}
use Rattle.rds_meter.proofs.meter.Meter.raise.Goals as goal

pub fetch_or-requires : goal.fetch_or-requires
fetch_or-requires c =
    let of = same_table _ _ _ _ _ _ _ c.seat.view_is c.self.view_is c.requires.table in
    let place = c.place_of-word.ensures in
    let check = c.requires.check in
    let small : c.args.mark.now.port < 65536 = search rules in
    let word = place.0 in (
      of,
      (let w = c.self.invariant.0 in omega arith),
      raises_by _ _ c.args.mark.now.port _ _ c.seat.inside.seat.me _ check.1 place.0 place.1 c.seat.invariant.0 small (ap (λ (h : MeterSeat). h.view.pending) c.seat.view_is ∙ check.2),
    )

pub returns : goal.returns
returns c =
    let place = c.place_of-word.ensures in
    let done = c.fetch_or.ensures in
    let port = raised_port c.args.mark.now.port done.2.0 _ _ place.0 place.1 done.2.1 done.2.2 in
    kept _ _ _ _ _ _ (λ v. after_raise v c.args.mark.now.port) c.seat.view_is done.0 (ap (λ m. m.0) done.2.3 ∙ ap (after_raise c.seat.inside.seat.me.0) port) refl
