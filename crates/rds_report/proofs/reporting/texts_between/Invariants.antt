use Rattle.std.proofs.Common.{◌≡◌, ◌≤◌, ◌++◌, string_bytes}
use Rattle.std.specs.List.{flat_map}
use Rattle.rds_text.specs.FinalViews.{AreFinalHosts, host_views}
use Rattle.rds_report.specs.ItemReport.{parts}
use Rattle.rds_report.proofs.reporting.texts_between.Given as goal

abbrev pub invariant-loop-host : goal.invariant-loop-host
invariant-loop-host g l = record {
  within : l.host ≤ l.fn.to;
  printed : AreFinalHosts (host_views l.hosts) → parts (host_views l.hosts) l.host ≡ parts (host_views l.hosts) l.fn.from ++ flat_map string_bytes l.texts.items;
}
