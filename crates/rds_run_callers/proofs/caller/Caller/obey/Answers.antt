use Rattle.std.proofs.Common.{ℕ, OnOk, sym, subst, rules}
use Rattle.rds_script.specs.declared.script.Command.{Command}
use Rattle.rds_run_callers.specs.Doing.{IsDone, AtPort, CutsByLast}
use Rattle.rds_run_callers.specs.Tenants.{Cancels}
use Rattle.rds_run_callers.proofs.caller.Caller.obey.Goals as goal

pub returns-in-BindAny-clause-done : goal.returns-in-BindAny-clause-done
returns-in-BindAny-clause-done g c =
    subst (λ (k : Command). OnOk c.bind_any.result (IsDone k c.args.self.now.places c.bind_any.new.self.places)) (sym c.in-BindAny.is) c.bind_any.ensures.done

pub returns-in-Cancel-clause-done : goal.returns-in-Cancel-clause-done
returns-in-Cancel-clause-done g c =
    subst (λ (k : Command). OnOk c.cancel.result (IsDone k c.args.self.now.places c.cancel.new.self.places)) (sym c.in-Cancel.is)
    (subst (λ (peer : ℕ). OnOk c.cancel.result (AtPort c.in-Cancel.port (Cancels peer c.in-Cancel.dport) c.args.self.now.places c.cancel.new.self.places)) c.address-in-Cancel.ensures
    c.cancel.ensures.done)

pub returns-in-Cut-clause-done : goal.returns-in-Cut-clause-done
returns-in-Cut-clause-done g c =
    subst (λ (k : Command). OnOk c.cut.result (IsDone k c.args.self.now.places c.cut.new.self.places)) (sym c.in-Cut.is)
    (subst (λ (peer : ℕ). OnOk c.cut.result (CutsByLast peer c.args.self.now.places c.cut.new.self.places)) c.address-in-Cut.ensures c.cut.ensures.done)

pub returns-in-Send-clause-done : goal.returns-in-Send-clause-done
returns-in-Send-clause-done g c = search rules

pub returns-in-Recv-clause-done : goal.returns-in-Recv-clause-done
returns-in-Recv-clause-done g c = search rules
