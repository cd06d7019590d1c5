-- A seat that is of a meter, as the fields of both.
use Rattle.std.proofs.Common.{◌≡◌, ℕ, Option, sym, ap, ◌∙◌, subst}
use Rattle.atomic_table.specs.Seated.{TableId}
use Rattle.rds_seats.specs.Views.{Table}
use Rattle.rds_meter.specs.declared.view.View.{View}
use Rattle.rds_meter.specs.Seats.{MeterSeat, meter_seat, knowing}

pub same_table : (id other : TableId) (slots : ℕ) (slot : Option ℕ) (v : View) (h : MeterSeat) (t : Table) → meter_seat id slot v ≡ h → record { id = other; slots = slots } ≡ t → h.table ≡ t → id ≡ other
same_table id other slots slot v h t mine theirs same =
    let e : (meter_seat id slot v).table ≡ record { id = other; slots = slots } = ap (λ (x : MeterSeat). x.table) mine ∙ (same ∙ sym theirs) in
    ap (λ (x : Table). x.id) e

-- a seat whose view became what f makes of it
pub kept : (id now : TableId) (slot : Option ℕ) (v w : View) (h : MeterSeat) (f : View → View) → meter_seat id slot v ≡ h → now ≡ id → w ≡ f v → (f v).slots ≡ v.slots → meter_seat now slot w ≡ knowing h (f h.view)
kept id now slot v w h f mine same is slots =
    subst (λ (x : MeterSeat). meter_seat now slot w ≡ knowing x (f x.view)) mine (λ i. record { table = record { id = same i; slots = (ap (λ (x : View). x.slots) is ∙ slots) i }; slot = slot; view = is i })
