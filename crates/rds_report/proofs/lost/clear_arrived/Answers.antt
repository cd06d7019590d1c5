use Rattle.std.proofs.Common.{◌∙◌, ◌&&◌, not, List, sym, ap}
use Rattle.rds_model.specs.declared.entry.Entry.{Entry}
use Rattle.rds_model.specs.Streams.{was_passed}
use Rattle.rds_report.specs.Items.{flags}
use Rattle.rds_report.specs.TakenBackWalk.{before}
use Rattle.rds_report.proofs.Steps.{before_next}
use Rattle.rds_report.proofs.Walked.{cleared_more}
use Rattle.rds_report.proofs.lost.clear_arrived.Goals as goal

pub loop-entry-preserved : goal.loop-entry-preserved
loop-entry-preserved c = λ test m is.
    let more = before_next c.args.journal.now.past c.loop-entry.entry-index c.entry-item.result c.entries-entry-items.result.now c.entries-entry-items.ensures.list c.loop-entry-test.true c.entry-item.is in
    c.clear.ensures (λ n. test n && not (was_passed (before c.loop-entry.entry-index c.args.journal.now.past) n)) m (c.loop-entry.invariant test m is)
    ∙ cleared_more test m c.entry-item.result (before c.loop-entry.entry-index c.args.journal.now.past)
    ∙ ap (λ (past : List Entry). flags (λ n. test n && not (was_passed past n)) m) (sym more)
