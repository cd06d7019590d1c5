use Rattle.std.proofs.Common.{ap}
use Rattle.rds_run_callers.specs.Doing.{AtPort}
use Rattle.rds_run_callers.specs.Tenants.{Cancels}
use Rattle.rds_run_callers.proofs.Coming.{done_shown, keeps_shown}
use Rattle.rds_run_callers.proofs.caller.Caller.cancel.Goals as goal

pub returns-clause-keeps : goal.returns-clause-keeps
returns-clause-keeps g c = keeps_shown (AtPort c.args.port (Cancels c.args.peer c.args.dport)) c.self.inside.slots.states.items c.cancel_of.new.slots.states.items c.args.self.now.places c.cancel_of.result (ap (λ v. v.places) c.self.view_is) c.cancel_of.ensures

pub returns-clause-done : goal.returns-clause-done
returns-clause-done g c = done_shown (AtPort c.args.port (Cancels c.args.peer c.args.dport)) c.self.inside.slots.states.items c.cancel_of.new.slots.states.items c.args.self.now.places c.cancel_of.result (ap (λ v. v.places) c.self.view_is) c.cancel_of.ensures
