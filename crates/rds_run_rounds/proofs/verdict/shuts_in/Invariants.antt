use Rattle.std.proofs.Common.{◌≡◌}
use Rattle.rds_line_channel.specs.Carried.{shuts}
use Rattle.rds_run_rounds.proofs.Counted.{oldest}
use Rattle.rds_run_rounds.proofs.verdict.shuts_in.Given as goal

abbrev pub invariant-loop-entry : goal.invariant-loop-entry
invariant-loop-entry l = l.count ≡ shuts (oldest l.entry-index l.journal.past)
