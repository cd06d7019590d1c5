use Rattle.std.proofs.Common.{◌<◌, Some, IsSome, sym, ap, ◌∙◌, arith, rules, subst}
use Rattle.rds_bindtab.specs.Seats.{PortSeat}
use Rattle.rds_bindtab.proofs.Seated.{same_table, seated}
use Rattle.rds_bindtab.proofs.Claims.{releases_port}
use Rattle.rds_bindtab.proofs.table.BindTable.release.Goals as goal

pub store-requires : goal.store-requires
store-requires c =
    let of = same_table _ _ _ _ _ _ c.seat.view_is c.self.view_is c.requires.table in
    let i = c.seat.invariant in
    let port = c.in-Some.is ∙ ap Some (sym c.from.ensures) in
    let slot = seated c.seat.inside.slot c.seat.inside.port (subst IsSome (sym (i.1 ∙ ap (λ (h : PortSeat). h.view.port) c.seat.view_is)) c.requires.port) i.4 in
    let small : c.from.result < 65536 = search rules in (
      of.0,
      (let w = c.self.invariant.1 in omega arith),
      releases_port _ _ _ c.from.result slot.0 c.seat.inside.seat.me small (sym i.0 ∙ slot.1) (sym i.1 ∙ port),
    )
