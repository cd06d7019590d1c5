-- A seat that is of a table, as the fields of both; and what is known of its slot and its port.
use Rattle.std.proofs.Common.{◌≡◌, ℕ, Option, Some, None, IsSome, sym, ap, ◌∙◌}
use Rattle.atomic_table.specs.Seated.{TableId}
use Rattle.rds_seats.specs.Views.{Table}
use Rattle.rds_bindtab.specs.declared.view.View.{View}
use Rattle.rds_bindtab.specs.Seats.{PortSeat, port_seat}

pub same_table : (id other : TableId) (slots : ℕ) (v : View) (h : PortSeat) (t : Table) → port_seat id v ≡ h → record { id = other; slots = slots } ≡ t → h.table ≡ t → (id ≡ other) × (v.slots ≡ slots)
same_table id other slots v h t mine theirs same =
    let e : (port_seat id v).table ≡ record { id = other; slots = slots } = ap (λ (x : PortSeat). x.table) mine ∙ (same ∙ sym theirs) in
    (ap (λ (x : Table). x.id) e, ap (λ (x : Table). x.slots) e)

pub some_of : (o : Option ℕ) → IsSome o → (n : ℕ) × (o ≡ Some n)
some_of (Some n) e = (n, λ i. Some n)
some_of None e = absurd (cc)

-- a seat with a port has a slot
pub seated : (slot port : Option ℕ) → IsSome port → (slot ≡ None → port ≡ None) → (n : ℕ) × (slot ≡ Some n)
seated (Some n) port e without = (n, λ i. Some n)
seated None port e without = let none = without (λ i. None) in absurd (cc)
