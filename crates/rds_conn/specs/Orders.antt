-- What the orders of sockets do to a journal. Source: rds(7) for the cancellation by destination.
use Rattle.std.specs.Prelude.{ℕ, ◌-◌, ◌<◌, ◌≤◌, ◌==◌, if◌then◌else◌, [], ◌∷◌, length}
use Rattle.rds_wire.specs.declared.kind.TheConstants.{MAX_LENGTH}
use Rattle.rds_model.specs.declared.entry.Entry.TheVariants as entry
use Rattle.rds_model.specs.declared.entry.Target.TheVariants as target
use Rattle.rds_model.specs.declared.order.Order.{Order}
use Rattle.rds_model.specs.declared.order.Order.TheVariants as order
use Rattle.rds_conn.specs.Connection.{Connection, with_entries}

-- a connection with so many slots may take the order
abbrev pub IsOrderFor : ℕ → Order → Type 0
IsOrderFor slots (order.Send slot sport dport payload) = (slot < slots) × (length payload ≤ MAX_LENGTH)
IsOrderFor slots (order.Cancel slot dport) = slot < slots
IsOrderFor slots (order.CloseSocket slot) = slot < slots
IsOrderFor slots order.Cut = ⊥

-- the connection with the entry of an order, which takes the room of a message where a datagram is accepted; no
-- connection takes a cut
abbrev pub after_order : Order → Connection → Connection
after_order (order.Send slot sport dport payload) c =
    record (with_entries (entry.Accept slot sport dport payload ∷ []) c) { store_spare = c.store_spare - 1 }
after_order (order.Cancel slot dport) c = with_entries (entry.Cancel slot (target.Port dport) ∷ []) c
after_order (order.CloseSocket slot) c = with_entries (entry.Cancel slot target.All ∷ []) c
after_order order.Cut c = c

-- how many bytes more the datagrams of a slot have after an order
abbrev pub accepted_bytes : ℕ → Order → ℕ
accepted_bytes owner (order.Send slot sport dport payload) = if slot == owner then length payload else 0
accepted_bytes owner (order.Cancel slot dport) = 0
accepted_bytes owner (order.CloseSocket slot) = 0
accepted_bytes owner order.Cut = 0
