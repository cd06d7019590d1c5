use Rattle.std.proofs.Common.{◌≡◌, take}
use Rattle.rds_run_hosts.specs.Leading.{CallersKeep}
use Rattle.rds_run_hosts.specs.Parties.{HaveObeyed}
use Rattle.rds_run_hosts.proofs.Led.{AreBindsTo}
use Rattle.rds_run_hosts.proofs.leading.bind_leading.Given as goal

abbrev pub invariant-loop-placed : goal.invariant-loop-placed
invariant-loop-placed g l =
    (l.count ≡ l.placed-index)
    × CallersKeep l.fn.callers.items l.callers.items
    × HaveObeyed (take l.placed-index l.fn.commands) l.fn.callers.items l.callers.items
    × AreBindsTo l.placed-index l.fn.commands
