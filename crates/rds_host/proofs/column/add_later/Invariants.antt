use Rattle.std.proofs.Common.{◌≡◌, ◌-◌}
use Rattle.rds_host.specs.Ties.{putters_from}
use Rattle.rds_host.proofs.Pushing.{after_splits}
use Rattle.rds_host.proofs.column.add_later.Given as goal

abbrev pub invariant-loop : goal.invariant-loop
invariant-loop l =
    (l.put ≡ after_splits l.fn.queue.line (l.counter - 1)) × (l.passes.items ≡ putters_from l.fn.queue.line l.fn.slots 1 (l.counter - 1))
