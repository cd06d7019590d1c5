use Rattle.std.proofs.Common.{ℕ, ◌+◌, List, [], ◌∷◌, ◌++◌, ap, sym, subst, ◌∙◌}
use Rattle.std.proofs.lemmas.List.{length_push}
use Rattle.rds_run_callers.specs.Places.{CallerView}
use Rattle.rds_run_hosts.specs.Leading.{AreJobs}
use Rattle.rds_run_hosts.proofs.Jobs.{jobs_more}
use Rattle.rds_run_hosts.proofs.playing.numbered.Goals as goal

pub loop-caller-preserved : goal.loop-caller-preserved
loop-caller-preserved c =
    let inv = c.loop-caller.invariant in (
      ap (λ n. n + 1) inv.0 ∙ sym (length_push c.loop-caller.yielded c.in-Some.caller),
      subst (λ (l : List (ℕ × CallerView)). AreJobs (c.loop-caller.yielded ++ c.in-Some.caller ∷ []) l) (sym c.in_ok-push.ensures.items)
          (jobs_more c.loop-caller.yielded c.loop-caller.jobs.items c.loop-caller.host c.in-Some.caller inv.0 inv.1),
    )
