use Rattle.std.proofs.Common.{◌≡◌, false}
use Rattle.rds_model.specs.Past.{accepted}
use Rattle.rds_report.specs.Items.{flags}
use Rattle.rds_report.specs.TakenBackWalk.{before}
use Rattle.rds_report.proofs.taken.none.Given as goal

abbrev pub invariant-loop-entry : goal.invariant-loop-entry
invariant-loop-entry l = l.none.items ≡ flags (λ n. false) (accepted (before l.entry-index l.journal.past))
