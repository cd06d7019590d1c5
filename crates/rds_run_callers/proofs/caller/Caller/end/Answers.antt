use Rattle.std.proofs.Common.{List, IfOk, subst}
use Rattle.rds_run_callers.specs.Places.{Place}
use Rattle.rds_run_callers.specs.Ends.{HaveTheirPorts}
use Rattle.rds_run_callers.proofs.caller.Caller.end.Goals as goal

pub returns-clause-ports : goal.returns-clause-ports
returns-clause-ports g c = subst (λ (l : List Place). IfOk c.end_all.result (λ r. HaveTheirPorts l r.1.items)) c.into_states.ensures.places c.end_all.ensures.ports
