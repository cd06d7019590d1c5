use Rattle.std.proofs.Common.{◌≡◌, ◌++◌, false}
use Rattle.rds_report.specs.Items.{has_cancellation, sent_items}
use Rattle.rds_report.specs.TakenBackWalk.{before}
use Rattle.rds_report.proofs.sent.add_unless_cancelled.Given as goal

abbrev pub invariant-loop-entry : goal.invariant-loop-entry
invariant-loop-entry l = record {
  without : has_cancellation (before l.entry-index l.journal.past) ≡ false;
  sent : l.items.items ≡ l.fn.items.items ++ sent_items l.from l.to (λ n. false) (before l.entry-index l.journal.past);
}
