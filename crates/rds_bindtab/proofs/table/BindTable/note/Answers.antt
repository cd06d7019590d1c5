use Rattle.std.proofs.Common.{IsSome, sym, ap, ◌∙◌, subst, arith}
use Rattle.rds_bindtab.specs.Seats.{PortSeat}
use Rattle.rds_bindtab.proofs.Seated.{same_table, seated, some_of}
use Rattle.rds_bindtab.proofs.Notes.{notes}
use Rattle.rds_bindtab.proofs.table.BindTable.note.Goals as goal

pub split_seat-seat-requires : goal.split_seat-seat-requires
split_seat-seat-requires c =
    let of = same_table _ _ _ _ _ _ c.of.view_is c.self.view_is c.requires.table in
    let i = c.of.invariant in
    let holds = subst IsSome (sym (i.1 ∙ ap (λ (h : PortSeat). h.view.port) c.of.view_is)) c.requires.port in
    let slot = seated c.of.inside.slot c.of.inside.port holds i.4 in
    let port = some_of c.of.inside.port holds in
    (of.0, (let w = c.self.invariant.1 in omega arith), notes _ _ slot.0 port.0 c.of.inside.seat.me.0 (sym i.0 ∙ slot.1) (sym i.1 ∙ port.1))
