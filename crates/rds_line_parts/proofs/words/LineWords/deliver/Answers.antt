use Rattle.std.proofs.Common.{subst, ◌∙◌}
use Rattle.rds_meter.specs.Places.{put_word}
use Rattle.rds_meter.specs.Seats.{MeterSeat}
use Rattle.rds_line_parts.specs.Words.{AddsTo}
use Rattle.rds_line_parts.specs.DeliveryLaws.{counted_part, second_part}
use Rattle.rds_line_parts.proofs.words.LineWords.deliver.Goals as goal

pub returns-then-mark-clause-put : goal.returns-then-mark-clause-put
returns-then-mark-clause-put c =
    subst (λ (h : MeterSeat). AddsTo (put_word c.args.slot) c.args.n h.view c.look_again.new.self.view) c.self.view_is
    (λ w. second_part c.look_again.ensures w ∙ counted_part c.count_put-mark.ensures w)

pub returns-else-mark-clause-put : goal.returns-else-mark-clause-put
returns-else-mark-clause-put c =
    subst (λ (h : MeterSeat). AddsTo (put_word c.args.slot) c.args.n h.view c.count_put-mark.new.seat.view) c.self.view_is
    (counted_part c.count_put-mark.ensures)
