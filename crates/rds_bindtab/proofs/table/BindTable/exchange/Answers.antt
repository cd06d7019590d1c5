use Rattle.std.proofs.lemmas.Grind.{common_steps}
use Rattle.std.proofs.Common.{◌≡◌, Some, sym, ap, subst, IsSome, Option, ℕ, ◌∙◌, arith}
use Rattle.std.specs.Prelude.{unwrap_or}
use Rattle.rds_bindtab.specs.Seats.{PortSeat}
use Rattle.rds_bindtab.proofs.Seated.{same_table, some_of}
use Rattle.rds_bindtab.proofs.Claims.{exchanges}
use Rattle.rds_bindtab.proofs.table.BindTable.exchange.Goals as goal

pub compare_exchange-found-requires : goal.compare_exchange-found-requires
compare_exchange-found-requires c =
    let of = same_table _ _ _ _ _ _ c.seat.view_is c.self.view_is c.requires.table in
    let i = c.seat.invariant in
    let has = some_of c.seat.inside.seat.me.0.slot (subst IsSome (sym (ap (λ (h : PortSeat). h.view.slot) c.seat.view_is)) c.requires.slot) in
    let slot : c.from-slot.result ≡ has.0 = c.from-slot.ensures ∙ (c.unwrap_or.ensures ∙ ap (λ (o : Option ℕ). unwrap_or o 0) (i.0 ∙ has.1)) in
    let port = c.ranges.port.fits in
    let from = c.from.ensures in (
      of.0,
      (let w = c.self.invariant.1 in omega arith),
      exchanges _ _ _ c.from.result c.from-slot.result c.seat.inside.seat.me (omega arith) (has.1 ∙ ap Some (sym slot)) (ap (λ (h : PortSeat). h.view.port) c.seat.view_is ∙ c.requires.port),
    )

pub invariant_of-seat : goal.invariant_of-seat
invariant_of-seat c = grind (arith, common_steps)
