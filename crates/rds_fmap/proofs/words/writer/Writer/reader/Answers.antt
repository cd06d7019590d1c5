use Rattle.std.proofs.Common.{◌≡◌, sym, ap, ◌∙◌, arith}
use Rattle.std.specs.Arc.{arc_value}
use Rattle.atomic_table.specs.Seated.{TableId}
use Rattle.rds_fmap.proofs.Seats.{splits_off}
use Rattle.rds_fmap.proofs.words.writer.Writer.reader.Goals as goal

pub split_seat-seat-requires : goal.split_seat-seat-requires
split_seat-seat-requires c =
    let s = c.self.invariant in
    let clone : arc_value c.in_ok-words.words ≡ arc_value c.self.inside.words = c.in_ok-words.ensures {u = tt} in
    let same : c.self.inside.seat.table_id ≡ c.deref.result.now.shared.table_id = s.0 ∙ ap (λ t. t.shared.table_id) (sym clone) ∙ ap (λ t. t.shared.table_id) (sym c.deref.ensures) in
    let size = ap (λ (z : TableId). z.words) same in
    (same, (let n = s.1 in omega arith), splits_off _ _)
