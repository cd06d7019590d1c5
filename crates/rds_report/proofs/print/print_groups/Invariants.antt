use Rattle.std.proofs.Common.{◌≡◌, ◌≤◌, ◌++◌, length, string_bytes}
use Rattle.rds_report.specs.ItemReport.{AreKnown, IsUp, groups_text}
use Rattle.rds_report.proofs.print.print_groups.Given as goal

abbrev pub invariant-loop-group : goal.invariant-loop-group
invariant-loop-group l = record {
  up : IsUp l.rest;
  within : length l.rest ≤ length l.items;
  known : AreKnown l.items → AreKnown l.rest;
  printed : AreKnown l.items → string_bytes l.text ++ groups_text l.rest ≡ string_bytes l.fn.text ++ groups_text l.items;
}

abbrev pub decreases-loop-group : goal.decreases-loop-group
decreases-loop-group l = length l.rest
