use Rattle.std.proofs.Common.{◌≡◌, ◌++◌}
use Rattle.rds_report.specs.Items.{came_items}
use Rattle.rds_report.specs.TakenBackWalk.{before}
use Rattle.rds_report.proofs.collect.add_came.Given as goal

abbrev pub invariant-loop-entry : goal.invariant-loop-entry
invariant-loop-entry l = l.items.items ≡ l.fn.items.items ++ came_items l.from l.to (before l.entry-index l.journal.past)
