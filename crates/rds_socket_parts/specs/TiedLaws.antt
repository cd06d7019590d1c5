-- Laws, each proved: proofs in other crates use them. Nothing here has to be believed.
-- A seat at the meter that stays tied to its meter and slot, with what it has added.
use Rattle.std.proofs.Common.{◌≡◌, ℕ, ◌+◌, ◌<◌, ◌≤◌, Some, sym, ◌∙◌, subst, arith}
use Rattle.rds_model.specs.declared.entry.TheConstants.{MAX_SLOTS}
use Rattle.rds_seats.specs.Views.{Table}
use Rattle.rds_meter.specs.declared.view.View.{View}
use Rattle.rds_meter.specs.declared.view.Step.TheVariants.{Stored, Loaded, Lowered, Bumped}
use Rattle.rds_meter.specs.Places.{part, limit_word, taken_word}
use Rattle.rds_meter.specs.Seats.{MeterSeat, knowing, after_add, after_store, after_load, after_lower, after_bump}
use Rattle.rds_meter.specs.PartLaws.{part-push, part-after_add}

abbrev pub Tied : MeterSeat → Table → ℕ → ℕ → Type 0
Tied h m slot added = (h.table ≡ m) × (h.slot ≡ Some slot) × (slot < MAX_SLOTS) × (added ≡ part (taken_word slot) h.view.steps) × (added ≤ 4503599627370496)

pub part-after_load : (w q found : ℕ) (v : View) → part w (after_load v q found).steps ≡ part w v.steps
part-after_load w q found v = let p = part-push w v.steps (Loaded q found) in omega arith

pub part-after_store : (w slot limit : ℕ) (v : View) → part w (after_store v slot limit).steps ≡ part w v.steps
part-after_store w slot limit v = let p = part-push w v.steps (Stored (limit_word slot) limit) in omega arith

pub part-after_lower : (w port : ℕ) (v : View) → part w (after_lower v port).steps ≡ part w v.steps
part-after_lower w port v = let p = part-push w v.steps (Lowered port) in omega arith

pub part-after_bump : (w change : ℕ) (v : View) → part w (after_bump v change).steps ≡ part w v.steps
part-after_bump w change v = let p = part-push w v.steps (Bumped change) in omega arith

pub tied_on : (old now : MeterSeat) (w : View) (m : Table) (slot added : ℕ) → now ≡ knowing old w → part (taken_word slot) w.steps ≡ part (taken_word slot) old.view.steps → Tied old m slot added → Tied now m slot added
tied_on old now w m slot added is same t = subst (λ h. Tied h m slot added) (sym is) (t.0, t.1, t.2, t.3 ∙ sym same, t.4)

pub tied_more : (old now : MeterSeat) (m : Table) (slot added n after : ℕ) → now ≡ knowing old (after_add old.view (taken_word slot) n after) → added + n ≤ 4503599627370496 → Tied old m slot added → Tied now m slot (added + n)
tied_more old now m slot added n after is most t =
    let p = part-after_add old.view (taken_word slot) n after in
    let e = t.3 in
    subst (λ h. Tied h m slot (added + n)) (sym is) (t.0, t.1, t.2, omega arith, most)
