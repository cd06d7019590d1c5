use Rattle.std.proofs.Common.{◌≡◌}
use Rattle.rds_model.specs.Past.{highest_ack}
use Rattle.rds_report.specs.TakenBackWalk.{before, acknowledgements}
use Rattle.rds_report.proofs.acknowledgements.acknowledgements.Given as goal

abbrev pub invariant-loop-entry : goal.invariant-loop-entry
invariant-loop-entry l = record {
  acks : l.acks.items ≡ acknowledgements (before l.entry-index l.journal.past);
  acked : l.acked ≡ highest_ack (before l.entry-index l.journal.past);
}
