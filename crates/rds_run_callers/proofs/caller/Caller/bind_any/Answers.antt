use Rattle.std.proofs.Common.{sym, ap, subst}
use Rattle.rds_run_callers.specs.Doing.{BindsFirstFree, IsFirstFree}
use Rattle.rds_run_callers.proofs.Coming.{done_shown, keeps_shown}
use Rattle.rds_run_callers.proofs.caller.Caller.bind_any.Goals as goal

pub bind_any_next-requires-clause-first : goal.bind_any_next-requires-clause-first
bind_any_next-requires-clause-first c = subst (λ l. IsFirstFree l c.args.start c.in-Some.port) (sym (ap (λ v. v.places) c.self.view_is)) c.in-Some.ensures

pub returns-clause-keeps : goal.returns-clause-keeps
returns-clause-keeps c = keeps_shown (BindsFirstFree c.args.start c.args.sndbuf c.args.rcvbuf) c.self.inside.slots.states.items c.bind_any_next.new.slots.states.items c.args.self.now.places c.bind_any_next.result
    (ap (λ v. v.places) c.self.view_is) c.bind_any_next.ensures

pub returns-clause-done : goal.returns-clause-done
returns-clause-done c = done_shown (BindsFirstFree c.args.start c.args.sndbuf c.args.rcvbuf) c.self.inside.slots.states.items c.bind_any_next.new.slots.states.items c.args.self.now.places c.bind_any_next.result
    (ap (λ v. v.places) c.self.view_is) c.bind_any_next.ensures
