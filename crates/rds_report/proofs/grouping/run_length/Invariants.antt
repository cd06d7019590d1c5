use Rattle.std.proofs.Common.{◌≡◌, ◌+◌, drop}
use Rattle.std.specs.List.{prefix_len}
use Rattle.rds_report.specs.Items.{seen}
use Rattle.rds_report.specs.ItemReport.{is_of}
use Rattle.rds_report.proofs.grouping.run_length.Given as goal

abbrev pub invariant-loop-i : goal.invariant-loop-i
invariant-loop-i l =
    prefix_len (is_of (seen l.group)) l.items ≡ l.i + prefix_len (is_of (seen l.group)) (drop l.i l.items)
