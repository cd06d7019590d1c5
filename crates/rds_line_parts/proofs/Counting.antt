-- The bit may be raised after a check that has to raise it.
use Rattle.std.proofs.Common.{◌≡◌, ℕ, ◌<◌, true, refl, sym, subst, ◌∙◌}
use Rattle.rds_meter.specs.declared.mark.Mark.{Mark}
use Rattle.rds_meter.specs.Seats.{MeterSeat, knowing, OpensWith, must_raise}
use Rattle.rds_meter.specs.CheckLaws.{opens_with}
use Rattle.rds_line_parts.specs.Delivery.{check_of, after_check}

pub may_raise : (old new : MeterSeat) (slot n : ℕ) (mark : Mark) → slot < 1024 → new ≡ knowing old (after_check old.view slot n mark)
    → mark.set ≡ must_raise (check_of slot mark) → mark.set ≡ true → OpensWith new.view mark
may_raise old new slot n mark small is rule set =
    subst (λ (h : MeterSeat). OpensWith h.view mark) (sym is) (opens_with old.view slot n mark.put mark.limit mark.taken small mark refl refl refl (sym rule ∙ set))
