use Rattle.std.proofs.Common.{◌≡◌, take}
use Rattle.rds_report.specs.ItemReport.{tally}
use Rattle.rds_report.specs.ItemTotals.{seen_counts}
use Rattle.rds_report.proofs.counts.Counts.of.Given as goal

abbrev pub invariant-loop-item : goal.invariant-loop-item
invariant-loop-item l = seen_counts l.counts ≡ tally (take l.item-index l.items)
