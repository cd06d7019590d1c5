use Rattle.std.proofs.Common.{ap}
use Rattle.rds_run_callers.specs.Doing.{CutsByLast}
use Rattle.rds_run_callers.proofs.Coming.{done_shown, keeps_shown}
use Rattle.rds_run_callers.proofs.caller.Caller.cut.Goals as goal

pub returns-clause-keeps : goal.returns-clause-keeps
returns-clause-keeps g c = keeps_shown (CutsByLast c.args.peer) c.self.inside.slots.states.items c.cut_by_last.new.slots.states.items c.args.self.now.places c.cut_by_last.result (ap (λ v. v.places) c.self.view_is) c.cut_by_last.ensures

pub returns-clause-done : goal.returns-clause-done
returns-clause-done g c = done_shown (CutsByLast c.args.peer) c.self.inside.slots.states.items c.cut_by_last.new.slots.states.items c.args.self.now.places c.cut_by_last.result (ap (λ v. v.places) c.self.view_is) c.cut_by_last.ensures
