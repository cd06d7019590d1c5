use Rattle.std.proofs.Common.{◌∙◌, ◌≤◌, ◌∷◌, [], length, take, arith, ap, sym}
use Rattle.std.proofs.lemmas.List.{length-take-le, take_all}
use Rattle.rds_text.specs.Report.{Counts}
use Rattle.rds_report.specs.ItemReport.{tally}
use Rattle.rds_report.specs.ItemTotals.{count_all}
use Rattle.rds_report.specs.Summary.{plus}
use Rattle.rds_report.proofs.Counted.{count_tally, tally_append}
use Rattle.rds_report.proofs.Gathered.{take_item}
use Rattle.rds_report.proofs.counts.Counts.of.Goals as goal

pub add-requires : goal.add-requires
add-requires c =
    let items = c.args.items.now in
    let i = c.loop-item.item-index in
    let counted = ap count_all c.loop-item.invariant ∙ count_tally (take i items) in
    let within : i ≤ length items = omega (arith, c.loop-item-test.true) in
    omega (arith, counted, length-take-le i items within, c.loop-item-test.true)

pub loop-item-preserved : goal.loop-item-preserved
loop-item-preserved c =
    let items = c.args.items.now in
    let i = c.loop-item.item-index in
    let x = c.item-item.result in
    c.add.ensures
    ∙ ap (λ (k : Counts). plus k (tally (x ∷ []))) c.loop-item.invariant
    ∙ sym (tally_append (take i items) (x ∷ []))
    ∙ ap tally (sym (take_item items i x c.loop-item-test.true c.item-item.is))

pub returns-clause-accepted : goal.returns-clause-accepted
returns-clause-accepted c = ap (λ (k : Counts). k.accepted) (c.loop-item.invariant ∙ ap tally (take_all c.loop-item.item-index c.args.items.now (omega arith)))

pub returns-clause-received : goal.returns-clause-received
returns-clause-received c = ap (λ (k : Counts). k.received) (c.loop-item.invariant ∙ ap tally (take_all c.loop-item.item-index c.args.items.now (omega arith)))

pub returns-clause-unread : goal.returns-clause-unread
returns-clause-unread c = ap (λ (k : Counts). k.unread) (c.loop-item.invariant ∙ ap tally (take_all c.loop-item.item-index c.args.items.now (omega arith)))

pub returns-clause-dropped : goal.returns-clause-dropped
returns-clause-dropped c = ap (λ (k : Counts). k.dropped) (c.loop-item.invariant ∙ ap tally (take_all c.loop-item.item-index c.args.items.now (omega arith)))

pub returns-clause-port0 : goal.returns-clause-port0
returns-clause-port0 c = ap (λ (k : Counts). k.port0) (c.loop-item.invariant ∙ ap tally (take_all c.loop-item.item-index c.args.items.now (omega arith)))

pub returns-clause-cancelled : goal.returns-clause-cancelled
returns-clause-cancelled c = ap (λ (k : Counts). k.cancelled) (c.loop-item.invariant ∙ ap tally (take_all c.loop-item.item-index c.args.items.now (omega arith)))

pub returns-clause-all : goal.returns-clause-all
returns-clause-all c =
    let items = c.args.items.now in
    ap count_all (c.loop-item.invariant ∙ ap tally (take_all c.loop-item.item-index items (omega arith))) ∙ count_tally items
