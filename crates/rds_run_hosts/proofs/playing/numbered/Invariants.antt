use Rattle.std.proofs.Common.{◌≡◌, length}
use Rattle.rds_run_hosts.specs.Leading.{AreJobs}
use Rattle.rds_run_hosts.proofs.playing.numbered.Given as goal

abbrev pub invariant-loop-caller : goal.invariant-loop-caller
invariant-loop-caller l = (l.host ≡ length l.yielded) × AreJobs l.yielded l.jobs.items
