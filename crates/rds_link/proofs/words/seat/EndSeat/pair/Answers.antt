use Rattle.std.proofs.Common.{ap, ◌∙◌, arith}
use Rattle.rds_link.specs.Plays.{Seated}
use Rattle.rds_link.proofs.Steps.{halves, opens}
use Rattle.rds_link.proofs.words.seat.EndSeat.pair.Goals as goal

pub of_words-requires : goal.of_words-requires
of_words-requires c = opens

pub split_seat-other_seat-requires : goal.split_seat-other_seat-requires
split_seat-other_seat-requires c =
    let new = c.in_ok-table.ensures {u = tt} in
    let drew = c.draw-number.ensures in
    (drew.words ∙ new.2, (let w = new.0 in omega arith), halves _ _ (let d = ap (λ (m : Seated). m.0.draws) drew.seat in let e = ap (λ (m : Seated). m.0.draws) new.4 in omega arith))
