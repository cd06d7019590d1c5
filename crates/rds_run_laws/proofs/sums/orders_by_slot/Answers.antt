use Rattle.rds_run_laws.proofs.Slots.{by_slots}
use Rattle.rds_run_laws.proofs.sums.orders_by_slot.Goals as goal

pub returns : goal.returns
returns c weight slots past none = by_slots weight slots past none
