use Rattle.std.proofs.Common.{map, ap, ◌∙◌}
use Rattle.rds_run_callers.specs.Places.{spared}
use Rattle.rds_run_callers.proofs.Sparing.{sound_spared}
use Rattle.rds_run_callers.proofs.caller.Caller.leave_vacants.Goals as goal

pub invariant_of-self : goal.invariant_of-self
invariant_of-self c = (sound_spared c.self.inside.slots.states.items c.leave_all.new.slots.states.items c.self.invariant c.leave_all.ensures).0

pub returns-clause-places : goal.returns-clause-places
returns-clause-places c = (sound_spared c.self.inside.slots.states.items c.leave_all.new.slots.states.items c.self.invariant c.leave_all.ensures).1 ∙ ap (λ v. map spared v.places) c.self.view_is
