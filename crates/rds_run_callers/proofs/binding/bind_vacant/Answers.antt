use Rattle.std.proofs.Common.{ℕ, ◌≤◌, sym, ap, subst, rules, refl}
use Rattle.rds_fmap.specs.Readers.{ReaderView}
use Rattle.rds_socket.specs.Holding.{Open}
use Rattle.rds_run_callers.specs.Places.{Vacant}
use Rattle.rds_run_callers.proofs.binding.bind_vacant.Goals as goal

pub returns-in-Err-clause-failed : goal.returns-in-Err-clause-failed
returns-in-Err-clause-failed c = (Vacant c.in-Err.vacant, refl, tt)

pub bind-requires-clause-rcvbuf : goal.bind-requires-clause-rcvbuf
bind-requires-clause-rcvbuf c = search rules

pub returns-in-Ok-clause-bound : goal.returns-in-Ok-clause-bound
returns-in-Ok-clause-bound c = search rules

pub new-requires-clause-low : goal.new-requires-clause-low
new-requires-clause-low c = subst (λ (port : ℕ). 2 ≤ port) (sym (ap (λ (o : Open ReaderView). o.port) c.in-Ok.ensures.1)) c.in-Ok.ensures.0
