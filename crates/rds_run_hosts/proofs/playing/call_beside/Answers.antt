use Rattle.std.proofs.Common.{◌≡◌, ℕ, Some, length, map, slice_get, Result, Ok, IfOk, sym, ◌∙◌, subst}
use Rattle.std.proofs.lemmas.Option.{get_or_from_slice_get, slice_get_within}
use Rattle.rds_wire.specs.declared.memory.Memory.{Memory}
use Rattle.rds_run_callers.specs.Places.{CallerView}
use Rattle.rds_run_hosts.specs.Leading.{CallersKeep, HasCalled}
use Rattle.rds_run_hosts.specs.Parties.{HaveObeyed}
use Rattle.rds_run_hosts.proofs.Jobs.{jobs_count, jobs_did}
use Rattle.rds_run_hosts.proofs.Keeping.{on_ok}
use Rattle.rds_run_hosts.proofs.playing.call_beside.Goals as goal
use Rattle.rds_run_hosts.proofs.playing.call_beside.Goals.{In_ok-done}

-- as many answers as jobs
same_count : (g : _) (c : In_ok-done g) → length c.in_ok-done.done.items ≡ length c.in_ok-jobs.jobs.items
same_count g c = sym c.in_ok-done.done.ok.0 ∙ c.in_ok-done.ensures.len ∙ c.in_ok-jobs.jobs.ok.0

-- each of which is what the caller of that host did
each_job : (g : _) (c : In_ok-done g) (host : ℕ) (job : ℕ × CallerView) (r : Result CallerView Memory) → slice_get c.in_ok-jobs.jobs.items host ≡ Some job →
    slice_get c.in_ok-done.done.items host ≡ Some r → IfOk r (HasCalled job.0 c.args.commands.now job.1)
each_job g c host job r at_job at_r =
    let gives = (c.in_ok-done.ensures.each host r (slice_get_within c.in_ok-jobs.jobs.items host job at_job)).1 in
    let is : gives.job ≡ job = sym (gives.job_is job) ∙ get_or_from_slice_get c.in_ok-jobs.jobs.items host job job at_job in
    let came = get_or_from_slice_get c.in_ok-done.done.items host r r at_r in
    subst (λ (j : ℕ × CallerView). IfOk r (HasCalled j.0 c.args.commands.now j.1)) is
    (subst (λ (x : Result CallerView Memory). IfOk x (HasCalled gives.job.0 c.args.commands.now gives.job.1)) came gives.call.met)

pub returns-clause-obeyed : goal.returns-clause-obeyed
returns-clause-obeyed g c =
    let d = (goal.at.returns-clause-obeyed g c).In_ok-done in
    let jobs = c.in_ok-jobs.jobs.items in
    let done = c.in_ok-done.done.items in
    on_ok (λ after. map Ok after.items ≡ done) (λ after. HaveObeyed c.args.commands.now c.args.callers.items after.items) c.all_of.result
    (λ after all. record {
      count = jobs_count (λ host. HasCalled host c.args.commands.now) c.args.callers.items after.items jobs done c.in_ok-jobs.ensures (same_count g d) all (each_job g d);
      each = λ host caller x stood stands.
          (jobs_did (λ host. HasCalled host c.args.commands.now) c.args.callers.items after.items jobs done c.in_ok-jobs.ensures (same_count g d) all (each_job g d)
          host caller x stood stands).obeyed;
    })
    c.all_of.ensures

pub returns-clause-keeps : goal.returns-clause-keeps
returns-clause-keeps g c =
    let d = (goal.at.returns-clause-keeps g c).In_ok-done in
    let jobs = c.in_ok-jobs.jobs.items in
    let done = c.in_ok-done.done.items in
    on_ok (λ after. map Ok after.items ≡ done) (λ after. CallersKeep c.args.callers.items after.items) c.all_of.result
    (λ after all. record {
      count = jobs_count (λ host. HasCalled host c.args.commands.now) c.args.callers.items after.items jobs done c.in_ok-jobs.ensures (same_count g d) all (each_job g d);
      each = λ host caller x stood stands.
          (jobs_did (λ host. HasCalled host c.args.commands.now) c.args.callers.items after.items jobs done c.in_ok-jobs.ensures (same_count g d) all (each_job g d)
          host caller x stood stands).keeps;
    })
    c.all_of.ensures
