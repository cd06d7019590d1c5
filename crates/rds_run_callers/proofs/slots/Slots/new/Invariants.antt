use Rattle.std.proofs.Common.{◌≡◌, map}
use Rattle.rds_run_callers.specs.States.{port_mark}
use Rattle.rds_run_callers.specs.declared.state.State.TheVariants as state
use Rattle.rds_run_callers.proofs.slots.Slots.new.Given as goal

abbrev pub invariant-loop-vacant : goal.invariant-loop-vacant
invariant-loop-vacant l = (l.states.items ≡ map state.Vacant l.yielded) × (l.ports.items ≡ map port_mark l.states.items)
