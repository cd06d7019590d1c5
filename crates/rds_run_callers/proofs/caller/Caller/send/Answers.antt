use Rattle.std.proofs.Common.{ℕ, List, OnOk, ap, subst}
use Rattle.rds_run_callers.specs.Doing.{AtPort}
use Rattle.rds_run_callers.specs.States.{shown_all}
use Rattle.rds_run_callers.specs.Tenants.{SendsFrom}
use Rattle.rds_run_callers.proofs.Coming.{done_shown, keeps_shown}
use Rattle.rds_run_callers.proofs.caller.Caller.send.Goals as goal

pub returns-clause-keeps : goal.returns-clause-keeps
returns-clause-keeps g c = keeps_shown (AtPort c.args.port (SendsFrom c.args.peer c.args.dport c.in_ok-payload.payload)) c.self.inside.slots.states.items c.send_from.new.slots.states.items c.args.self.now.places c.send_from.result
    (ap (λ v. v.places) c.self.view_is) c.send_from.ensures

pub returns-clause-done : goal.returns-clause-done
returns-clause-done g c =
    subst (λ (l : List ℕ). OnOk c.send_from.result (AtPort c.args.port (SendsFrom c.args.peer c.args.dport l) c.args.self.now.places (shown_all c.send_from.new.slots.states.items))) c.in_ok-payload.ensures
    (done_shown (AtPort c.args.port (SendsFrom c.args.peer c.args.dport c.in_ok-payload.payload)) c.self.inside.slots.states.items c.send_from.new.slots.states.items c.args.self.now.places c.send_from.result
    (ap (λ v. v.places) c.self.view_is) c.send_from.ensures)
