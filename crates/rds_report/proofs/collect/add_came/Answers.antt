use Rattle.std.proofs.Common.{◌∙◌, ◌++◌, List, sym, ap}
use Rattle.rds_model.specs.declared.entry.Entry.{Entry}
use Rattle.rds_report.specs.Items.{came_items}
use Rattle.rds_report.specs.TakenBackWalk.{before}
use Rattle.rds_report.proofs.Steps.{before_next}
use Rattle.rds_report.proofs.Gathered.{came_more}
use Rattle.rds_report.proofs.collect.add_came.Goals as goal

pub loop-entry-preserved : goal.loop-entry-preserved
loop-entry-preserved c =
    let more = before_next c.args.journal.now.past c.loop-entry.entry-index c.entry-item.result c.entries-entry-items.result.now c.entries-entry-items.ensures.list c.loop-entry-test.true c.entry-item.is in
    c.in_ok-add_read.ensures
    ∙ came_more c.args.from c.args.to c.entry-item.result (before c.loop-entry.entry-index c.args.journal.now.past) c.args.items.now.items
    c.loop-entry.items.items c.loop-entry.invariant
    ∙ ap (λ (past : List Entry). c.args.items.now.items ++ came_items c.args.from c.args.to past) (sym more)
