use Rattle.std.proofs.Common.{rules, sym, ap, ◌∙◌, arith}
use Rattle.rds_bindtab.specs.Seats.{PortSeat}
use Rattle.rds_bindtab.proofs.Seated.{same_table}
use Rattle.rds_bindtab.proofs.Draws.{draws}
use Rattle.rds_bindtab.proofs.table.BindTable.draw.Goals as goal

pub fetch_add-found-requires : goal.fetch_add-found-requires
fetch_add-found-requires c =
    let of = same_table _ _ _ _ _ _ c.seat.view_is c.self.view_is c.requires.table in
    let i = c.seat.invariant in
    let slot = ap (λ (h : PortSeat). h.view.slot) c.seat.view_is ∙ c.requires.slot in
    let few = ap (λ (h : PortSeat). h.view.draws) c.seat.view_is in
    (of.0, (let w = c.self.invariant.1 in omega arith), draws _ _ _ c.seat.inside.seat.me slot (sym i.1 ∙ i.4 (i.0 ∙ slot)) (of.1 ∙ sym c.self.invariant.0) (let e = c.requires.draws in omega arith) (i.2 (i.0 ∙ slot)))

pub invariant_of-seat-2 : goal.invariant_of-seat-2
invariant_of-seat-2 c = search rules

pub returns-clause-slot : goal.returns-clause-slot
returns-clause-slot c = search rules

pub returns-clause-ok : goal.returns-clause-ok
returns-clause-ok c = search rules
