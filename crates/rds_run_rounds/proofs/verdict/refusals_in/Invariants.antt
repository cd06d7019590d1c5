use Rattle.std.proofs.Common.{◌≡◌}
use Rattle.rds_run_rounds.specs.Causes.{refusals}
use Rattle.rds_run_rounds.proofs.Counted.{oldest}
use Rattle.rds_run_rounds.proofs.verdict.refusals_in.Given as goal

abbrev pub invariant-loop-entry : goal.invariant-loop-entry
invariant-loop-entry l = l.count ≡ refusals (oldest l.entry-index l.journal.past)
