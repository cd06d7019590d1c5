use Rattle.std.proofs.Common.{ap, subst}
use Rattle.rds_run_callers.specs.Doing.{IsFree, IsHeld}
use Rattle.rds_run_callers.proofs.Doings.{free_seen, held_seen, when_none, when_some}
use Rattle.rds_run_callers.proofs.caller.Caller.is_free.Goals as goal

pub returns-clause-free : goal.returns-clause-free
returns-clause-free c = λ is. subst (λ l. IsFree l c.args.port) (ap (λ v. v.places) c.self.view_is)
    (free_seen c.self.inside.slots.states.items c.self.invariant.whole c.args.port (when_none c.find_bound.result c.is_none.result c.is_none.ensures c.find_bound.ensures.none is))

pub returns-clause-held : goal.returns-clause-held
returns-clause-held c = λ is.
    let found = when_some c.find_bound.result c.is_none.result c.is_none.ensures c.find_bound.ensures.found is in
    subst (λ l. IsHeld l c.args.port) (ap (λ v. v.places) c.self.view_is) (held_seen c.self.inside.slots.states.items c.self.invariant.whole found.0 c.args.port found.1)
