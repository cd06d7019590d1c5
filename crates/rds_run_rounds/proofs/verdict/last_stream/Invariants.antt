use Rattle.std.proofs.Common.{◌≡◌}
use Rattle.rds_model.specs.Past.{newest_stream}
use Rattle.rds_run_rounds.proofs.Counted.{oldest}
use Rattle.rds_run_rounds.proofs.verdict.last_stream.Given as goal

abbrev pub invariant-loop-entry : goal.invariant-loop-entry
invariant-loop-entry l = l.last ≡ newest_stream (oldest l.entry-index l.journal.past)
