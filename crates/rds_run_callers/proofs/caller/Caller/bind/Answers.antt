use Rattle.std.proofs.Common.{sym, ap, subst}
use Rattle.rds_run_callers.specs.Doing.{Binds, IsFree}
use Rattle.rds_run_callers.proofs.Coming.{done_shown, keeps_shown}
use Rattle.rds_run_callers.proofs.caller.Caller.bind.Goals as goal

pub bind_next-requires-clause-free : goal.bind_next-requires-clause-free
bind_next-requires-clause-free c = subst (λ l. IsFree l c.args.port) (sym (ap (λ v. v.places) c.self.view_is)) (c.is_free.ensures.free c.if-not-is_free.false)

pub returns-clause-keeps : goal.returns-clause-keeps
returns-clause-keeps c = keeps_shown (Binds c.args.port c.args.sndbuf c.args.rcvbuf) c.self.inside.slots.states.items c.bind_next.new.slots.states.items c.args.self.now.places c.bind_next.result (ap (λ v. v.places) c.self.view_is) c.bind_next.ensures

pub returns-clause-done : goal.returns-clause-done
returns-clause-done c = done_shown (Binds c.args.port c.args.sndbuf c.args.rcvbuf) c.self.inside.slots.states.items c.bind_next.new.slots.states.items c.args.self.now.places c.bind_next.result (ap (λ v. v.places) c.self.view_is) c.bind_next.ensures
