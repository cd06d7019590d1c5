-- The seats of a host at its port table and its meter. Source: this project's own.
use Rattle.std.specs.Prelude.{◌≡◌, ◌<◌, ◌≤◌, [], Some, None}
use Rattle.rds_seats.specs.Views.{Table}
use Rattle.rds_model.specs.declared.entry.TheConstants.{MAX_SLOTS}
use Rattle.rds_bindtab.specs.Seats.{PortSeat, slot_of}
use Rattle.rds_meter.specs.Seats.{MeterSeat}
use Rattle.rds_meter.specs.declared.view.Stage.TheVariants.{Idle}
use Rattle.rds_socket_parts.specs.Ports.{HasClaimedOnly}

-- the seat has done nothing at its meter
pub record IsIdle (meter : Table) (own : MeterSeat) : Type 0 where
  pub meter_of : own.table ≡ meter
  pub stage : own.view.stage ≡ Idle
  pub checks : own.view.checks ≡ []
  pub pending : own.view.pending ≡ []
  pub steps : own.view.steps ≡ []

-- seats at tables with the same slots, which have no slot and no port, and have claimed none
pub record AreFree (table : Table) (seat : PortSeat) (meter : Table) (own : MeterSeat) : Type 0 where
  pub table_of : seat.table ≡ table
  pub slot : seat.view.slot ≡ None
  pub port : seat.view.port ≡ None
  pub claimed : HasClaimedOnly None seat.view
  pub idle : IsIdle meter own
  pub owner : own.slot ≡ None
  pub slots : table.slots ≡ meter.slots
  pub few : table.slots ≤ MAX_SLOTS

-- seats of one slot, which has no port and has claimed none
pub record AreOfSlot (table : Table) (seat : PortSeat) (meter : Table) (own : MeterSeat) : Type 0 where
  pub table_of : seat.table ≡ table
  pub slot : seat.view.slot ≡ Some (slot_of seat.view)
  pub small : slot_of seat.view < MAX_SLOTS
  pub port : seat.view.port ≡ None
  pub claimed : HasClaimedOnly None seat.view
  pub idle : IsIdle meter own
  pub owner : own.slot ≡ Some (slot_of seat.view)
