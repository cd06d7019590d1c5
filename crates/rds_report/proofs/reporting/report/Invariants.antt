use Rattle.std.proofs.Common.{◌≡◌, ◌≤◌, ◌++◌, string_bytes}
use Rattle.rds_text.specs.declared.host.TheConstants.{MAX_HOSTS}
use Rattle.rds_text.specs.FinalViews.{AreFinalHosts, host_views}
use Rattle.rds_report.specs.ItemReport.{parts}
use Rattle.rds_report.proofs.reporting.report.Given as goal

abbrev pub invariant-loop-host : goal.invariant-loop-host
invariant-loop-host l = record {
  within : l.host ≤ MAX_HOSTS;
  printed : AreFinalHosts (host_views l.hosts) → string_bytes l.text ≡ string_bytes l.fn.text ++ parts (host_views l.hosts) l.host;
}
