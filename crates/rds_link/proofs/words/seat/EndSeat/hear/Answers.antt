use Rattle.std.proofs.Common.{sym, ap, ◌∙◌, arith}
use Rattle.rds_link.specs.Plays.{Seated}
use Rattle.rds_link.specs.Seats.{StreamSeat}
use Rattle.rds_link.proofs.Steps.{notes, hears, within}
use Rattle.rds_link.proofs.words.seat.EndSeat.hear.Goals as goal

pub split_seat-note-requires : goal.split_seat-note-requires
split_seat-note-requires c =
    let i = c.other.invariant in
    let of = i.0 ∙ ap (λ t. t.shared.table_id) (sym c.deref.ensures) in
    (of, within of i.1 (omega arith), notes _ _)

pub join_seat-requires : goal.join_seat-requires
join_seat-requires c =
    let i = c.self.invariant in
    let of = i.0 ∙ ap (λ t. t.shared.table_id) (sym c.deref-2.ensures) in
    let same = ap (λ (s : StreamSeat). s.words) c.self.view_is ∙ (c.requires ∙ sym (ap (λ (s : StreamSeat). s.words) c.other.view_is)) in
    let note = c.split_seat-note.ensures in
    (of, note.3 ∙ (sym same ∙ of), ap (λ (m : Seated). m.1) note.4, within of i.1 (omega arith), hears _ _ _ (ap (λ (m : Seated). m.0.number) note.4) (ap (λ (m : Seated). m.0.draws) note.4))
