use Rattle.std.proofs.Common.{◌≡◌, ◌+◌, All, length, map}
use Rattle.std.specs.Arc.{arc_value}
use Rattle.rds_meter.specs.Grounds.{seats_of}
use Rattle.rds_host.specs.Passes.{slot_seats}
use Rattle.rds_host.specs.Slots.{AreInPlace}
use Rattle.rds_host.specs.Ties.{AreColumnsFilled, IsSlotOf, inbox_of, ways_of}
use Rattle.rds_host.proofs.making.vacants.Given as goal

abbrev pub invariant-loop : goal.invariant-loop
invariant-loop l =
    (arc_value l.seats.table ≡ arc_value l.fn.seats.table)
    × (arc_value l.seats.meter ≡ arc_value l.fn.seats.meter)
    × (l.seats.seat.view.weight ≡ 1)
    × (l.seats.seat.view.splits ≡ 4094)
    × (l.seats.seat.view.draws ≡ l.counter)
    × (l.seats.own.view.splits + l.counter ≡ 4094)
    × (slot_seats l.vacants.items + seats_of l.seats.own.view ≡ seats_of l.fn.seats.own.view)
    × (ways_of l.columns ≡ ways_of l.fn.columns)
    × (length l.columns ≡ length l.fn.columns)
    × AreColumnsFilled l.fn.slots (map inbox_of l.vacants.items) l.columns
    × (length l.vacants.items ≡ l.counter)
    × AreInPlace l.vacants.items
    × All (IsSlotOf l.fn.slots (ways_of l.fn.columns) (arc_value l.fn.seats.table) (arc_value l.fn.seats.meter)) l.vacants.items
