use Rattle.std.proofs.Common.{◌≡◌, ◌++◌}
use Rattle.rds_mail.specs.Numbers.{bare_items}
use Rattle.rds_run_callers.specs.Ends.{IsEndOf}
use Rattle.rds_run_callers.proofs.former.take_unread.Given as goal

abbrev pub invariant-loop : goal.invariant-loop
invariant-loop g l = IsEndOf l.fn.closed l.closed × (bare_items l.closed.inbox.get.got ≡ bare_items l.fn.closed.inbox.get.got ++ l.unread.items) × (l.closed.ports ≡ l.fn.closed.ports)
