use Rattle.std.proofs.Common.{◌≡◌, map, drop}
use Rattle.rds_text.specs.FinalState.{past_with}
use Rattle.rds_text.specs.FinalViews.{side_view}
use Rattle.rds_report.proofs.collect.journal_with.Given as goal

abbrev pub invariant-loop-with : goal.invariant-loop-with
invariant-loop-with l =
    past_with l.peer (map side_view l.journals) ≡ past_with l.peer (map side_view (drop l.with-index l.journals))
