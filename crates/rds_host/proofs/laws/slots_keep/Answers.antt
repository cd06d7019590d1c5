use Rattle.rds_host.proofs.Kept.{slots_same, slots_through}
use Rattle.rds_host.proofs.laws.slots_keep.Goals as goal

pub returns-clause-same : goal.returns-clause-same
returns-clause-same c slots = slots_same slots

pub returns-clause-through : goal.returns-clause-through
returns-clause-through c old middle new first second = slots_through old middle new first second
