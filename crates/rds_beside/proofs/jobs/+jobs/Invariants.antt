use Rattle.std.proofs.Common.{◌+◌, ◌*◌}
use Rattle.rds_beside.proofs.jobs.+jobs.Given as goal

abbrev pub decreases-run_jobs : goal.decreases-run_jobs
decreases-run_jobs g l = 2 * l.first.len

abbrev pub decreases-back : goal.decreases-back
decreases-back g l = 2 * l.others.len + 1
