use Rattle.std.proofs.Common.{◌≡◌, ℕ, Bool, ◌&&◌, not}
use Rattle.rds_model.specs.Streams.{was_passed}
use Rattle.rds_report.specs.Items.{flags}
use Rattle.rds_report.specs.TakenBackWalk.{before}
use Rattle.rds_report.proofs.lost.clear_arrived.Given as goal

abbrev pub invariant-loop-entry : goal.invariant-loop-entry
invariant-loop-entry l =
    (test : ℕ → Bool) (m : ℕ) → l.fn.lost ≡ flags test m →
    l.lost ≡ flags (λ n. test n && not (was_passed (before l.entry-index l.journal.past) n)) m
