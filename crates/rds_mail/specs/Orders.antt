-- Which orders may stand on a host's queues. This project's own.
use Rattle.std.specs.Prelude.{◌≤◌, ◌<◌, length}
use Rattle.rds_wire.specs.declared.kind.TheConstants.{MAX_LENGTH}
use Rattle.rds_model.specs.declared.entry.TheConstants.{MAX_SLOTS}
use Rattle.rds_model.specs.declared.order.Order.{Order}
use Rattle.rds_model.specs.declared.order.Order.TheVariants as order

-- its slot, where it has one, is below 1,024, and its payload has at most 1,048,576 bytes
abbrev pub IsAsked : Order → Type 0
IsAsked (order.Send slot sport dport payload) = (slot < MAX_SLOTS) × (length payload ≤ MAX_LENGTH)
IsAsked (order.Cancel slot dport) = slot < MAX_SLOTS
IsAsked (order.CloseSocket slot) = slot < MAX_SLOTS
IsAsked order.Cut = Unit {0}
