use Rattle.std.proofs.Common.{◌≡◌, drop}
use Rattle.rds_text.specs.FinalState.{past_of}
use Rattle.rds_text.specs.FinalViews.{host_views}
use Rattle.rds_report.proofs.collect.journal_of.Given as goal

abbrev pub invariant-loop-host : goal.invariant-loop-host
invariant-loop-host l =
    past_of l.addr l.peer (host_views l.hosts) ≡ past_of l.addr l.peer (host_views (drop l.host-index l.hosts))
