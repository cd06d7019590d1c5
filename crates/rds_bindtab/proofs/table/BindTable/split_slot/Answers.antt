use Rattle.std.proofs.Common.{◌≤◌, sym, ap, ◌∙◌, subst, arith}
use Rattle.rds_bindtab.specs.Seats.{PortSeat}
use Rattle.rds_bindtab.specs.Plays.{Seated}
use Rattle.rds_bindtab.proofs.Seated.{same_table}
use Rattle.rds_bindtab.proofs.Handing.{hands_over}
use Rattle.rds_bindtab.proofs.table.BindTable.split_slot.Goals as goal

pub split_seat-new-requires : goal.split_seat-new-requires
split_seat-new-requires c =
    let of = same_table _ _ _ _ _ _ c.seat.view_is c.self.view_is c.requires.table in
    (of.0, (let w = c.self.invariant.1 in omega arith), hands_over _ _ c.seat.inside.seat.me.0 (ap (λ (h : PortSeat). h.view.port) c.seat.view_is ∙ c.requires.port))

pub invariant_of-seat : goal.invariant_of-seat
invariant_of-seat c =
    let i = c.seat.invariant in
    let me = c.split_seat-new.ensures.2 in
    let counts : 1 ≤ c.seat.inside.seat.me.0.weight = let weight = ap (λ (h : PortSeat). h.view.weight) c.seat.view_is in let drawn = c.requires.drawn in omega arith in (
      sym (ap (λ (m : Seated). m.0.slot) me),
      i.1 ∙ sym (ap (λ (m : Seated). m.0.port) me),
      (λ none. subst (λ (m : Seated). 1 ≤ m.0.weight) (sym me) counts),
      ap (λ (m : Seated). m.1) me ∙ i.3,
      (λ none. i.1 ∙ (ap (λ (h : PortSeat). h.view.port) c.seat.view_is ∙ c.requires.port)),
    )
