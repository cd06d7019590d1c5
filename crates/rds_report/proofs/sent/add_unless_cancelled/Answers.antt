use Rattle.std.proofs.Common.{◌+◌, ◌||◌, ◌∙◌, ◌++◌, Bool, false, List, arith, sym, ap}
use Rattle.rds_model.specs.declared.entry.Entry.{Entry}
use Rattle.rds_report.specs.Items.{has_cancellation, sent_items}
use Rattle.rds_report.specs.TakenBackWalk.{before}
use Rattle.rds_report.proofs.Gathered.{front_stays, sent_more}
use Rattle.rds_report.proofs.Steps.{before_next, before_end, cancelled_before}
use Rattle.rds_report.proofs.sent.add_unless_cancelled.Goals as goal

pub loop-entry-preserved : goal.loop-entry-preserved
loop-entry-preserved c =
    let all = c.args.journal.now.past in
    let past = before c.loop-entry.entry-index all in
    let more = before_next all c.loop-entry.entry-index c.entry-item.result c.entries-entry-items.result.now c.entries-entry-items.ensures.list c.loop-entry-test.true c.entry-item.is in
    record {
      without =
          ap has_cancellation more
          ∙ ap (λ (b : Bool). b || has_cancellation past) (sym c.is_cancellation.ensures ∙ c.if-is_cancellation.false)
          ∙ c.loop-entry.invariant.without;
      sent =
          c.in_ok-add_acceptance.ensures
          ∙ sent_more c.args.from c.args.to c.entry-item.result past c.args.items.now.items c.loop-entry.items.items c.loop-entry.invariant.sent
          ∙ ap (λ (p : List Entry). c.args.items.now.items ++ sent_items c.args.from c.args.to (λ n. false) p) (sym more);
    }

pub returns-then-is_cancellation-clause-broken : goal.returns-then-is_cancellation-clause-broken
returns-then-is_cancellation-clause-broken c = λ _.
    let all = c.args.journal.now.past in
    let past = before c.loop-entry.entry-index all in
    let more = before_next all c.loop-entry.entry-index c.entry-item.result c.entries-entry-items.result.now c.entries-entry-items.ensures.list c.loop-entry-test.true c.entry-item.is in (
      cancelled_before (c.loop-entry.entry-index + 1) all
          (ap has_cancellation more
          ∙ ap (λ (b : Bool). b || has_cancellation past) (sym c.is_cancellation.ensures ∙ c.if-is_cancellation.true)),
      front_stays c.args.items.now.items c.loop-entry.items.items _ c.loop-entry.invariant.sent,
    )

pub returns-clause-whole : goal.returns-clause-whole
returns-clause-whole c = λ _.
    let all = c.args.journal.now.past in
    let whole = before_end all c.loop-entry.entry-index c.entries-entry-items.result.now c.entries-entry-items.ensures.list (omega (arith, c.loop-entry-test.false)) in (
      ap has_cancellation (sym whole) ∙ c.loop-entry.invariant.without,
      c.loop-entry.invariant.sent ∙ ap (λ (p : List Entry). c.args.items.now.items ++ sent_items c.args.from c.args.to (λ n. false) p) whole,
    )
