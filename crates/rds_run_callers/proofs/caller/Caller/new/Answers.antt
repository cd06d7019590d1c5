use Rattle.rds_run_callers.proofs.Sparing.{sound_vacant}
use Rattle.rds_run_callers.proofs.caller.Caller.new.Goals as goal

pub invariant_of-result : goal.invariant_of-result
invariant_of-result c =
    (sound_vacant c.args.vacants.items c.in_ok-slots.slots.states.items c.in_ok-slots.ensures.states c.in_ok-slots.ensures.count c.requires.number c.requires.empty).0

pub returns-clause-places : goal.returns-clause-places
returns-clause-places c =
    (sound_vacant c.args.vacants.items c.in_ok-slots.slots.states.items c.in_ok-slots.ensures.states c.in_ok-slots.ensures.count c.requires.number c.requires.empty).1
