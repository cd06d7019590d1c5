use Rattle.std.proofs.Common.{◌≡◌, ◌≤◌, ◌++◌, length}
use Rattle.rds_report.specs.ItemReport.{AreKnown, IsUp, groups_text}
use Rattle.rds_report.specs.Texts.{text_bytes}
use Rattle.rds_report.proofs.texts.Texts.print_groups.Given as goal

abbrev pub invariant-loop-group : goal.invariant-loop-group
invariant-loop-group g l = record {
  up : IsUp l.rest;
  within : length l.rest ≤ length l.items;
  known : AreKnown l.items → AreKnown l.rest;
  printed : AreKnown l.items → text_bytes l.self ++ groups_text l.rest ≡ text_bytes l.fn.self ++ groups_text l.items;
}

abbrev pub decreases-loop-group : goal.decreases-loop-group
decreases-loop-group g l = length l.rest
