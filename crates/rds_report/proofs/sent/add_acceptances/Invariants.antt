use Rattle.std.proofs.Common.{◌≡◌, ◌≤◌, ◌++◌, ℕ, Bool}
use Rattle.rds_model.specs.Past.{accepted}
use Rattle.rds_report.specs.Items.{flags, sent_items}
use Rattle.rds_report.specs.TakenBackWalk.{before}
use Rattle.rds_report.proofs.sent.add_acceptances.Given as goal

abbrev pub invariant-loop-entry : goal.invariant-loop-entry
invariant-loop-entry l = record {
  number : l.n ≡ accepted (before l.entry-index l.journal.past);
  few : l.n ≤ l.entry-index;
  sent : (test : ℕ → Bool) → l.lost ≡ flags test (accepted l.journal.past) →
      l.items.items ≡ l.fn.items.items ++ sent_items l.from l.to test (before l.entry-index l.journal.past);
}
