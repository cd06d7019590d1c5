use Rattle.std.proofs.Common.{◌≡◌, is_some}
use Rattle.rds_model.specs.Past.{open_stream}
use Rattle.rds_run_rounds.proofs.Counted.{oldest}
use Rattle.rds_run_rounds.proofs.counting.has_stream.Given as goal

abbrev pub invariant-loop-entry : goal.invariant-loop-entry
invariant-loop-entry l = l.has ≡ is_some (open_stream (oldest l.entry-index l.journal.past))
