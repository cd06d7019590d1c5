use Rattle.std.proofs.Common.{◌≡◌, false, List, sym, subst}
use Rattle.rds_model.specs.declared.entry.Entry.{Entry}
use Rattle.rds_model.specs.Past.{accepted}
use Rattle.rds_report.specs.Items.{flags}
use Rattle.rds_report.specs.TakenBackWalk.{before}
use Rattle.rds_report.proofs.Steps.{before_next}
use Rattle.rds_report.proofs.taken.none.Goals as goal

pub loop-entry-preserved : goal.loop-entry-preserved
loop-entry-preserved c =
    let all = c.args.journal.now.past in
    let more = before_next all c.loop-entry.entry-index c.entry-item.result c.entries-entry-items.result.now c.entries-entry-items.ensures.list c.loop-entry-test.true c.entry-item.is in
    subst (λ (past : List Entry). c.count.new.none.items ≡ flags (λ n. false) (accepted past)) (sym more)
    (c.in_ok-count.ensures (before c.loop-entry.entry-index all) c.loop-entry.invariant)
