use Rattle.std.proofs.Common.{◌≡◌, ◌≤◌, vec_len, length}
use Rattle.rds_report.specs.TakenBackWalk.{IsWalk, before, acknowledgements}
use Rattle.rds_report.proofs.taken.taken_back.Given as goal

abbrev pub invariant-loop-acked : goal.invariant-loop-acked
invariant-loop-acked l = record {
  walked : IsWalk l.journal.past l.walk (before l.i l.journal.past);
  acks : l.acks.items ≡ acknowledgements (before l.i l.journal.past);
  count : vec_len l.acks ≡ l.i;
  few : l.i ≤ length l.journal.past;
}

abbrev pub decreases-loop-acked : goal.decreases-loop-acked
decreases-loop-acked l = l.i
