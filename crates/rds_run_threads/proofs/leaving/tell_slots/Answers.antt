use Rattle.std.proofs.Common.{◌≡◌, ◌∙◌, List, ap, length, rules, subst, sym}
use Rattle.rds_fmap.specs.Readers.{WriterView}
use Rattle.rds_line.specs.Line.{LineView}
use Rattle.rds_run_settling.specs.Tied.{AreSlotsTold, AreTied, holdings}
use Rattle.rds_run_threads.proofs.Keeping.{back_of}
use Rattle.rds_run_threads.proofs.leaving.tell_slots.Goals as goal

pub returns-clause-told : goal.returns-clause-told
returns-clause-told g c =
    let len : c.args.lines.now.len ≡ length c.args.lines.now.items = search rules in
    let lent = c.settle_slots.ensures.lines ∙ c.deref_mut.ensures.value in
    let back = back_of c.args.lines.now.items c.settle_slots.new.lines c.args.lines.now.len len (ap length lent) in
    subst (λ (l : List (LineView g.row.E.Denot WriterView)). AreSlotsTold (holdings c.settle_slots.new.caller.places) l) (sym back) c.settle_slots.ensures.told

pub returns-clause-lines : goal.returns-clause-lines
returns-clause-lines g c =
    let len : c.args.lines.now.len ≡ length c.args.lines.now.items = search rules in
    let lent = c.settle_slots.ensures.lines ∙ c.deref_mut.ensures.value in
    back_of c.args.lines.now.items c.settle_slots.new.lines c.args.lines.now.len len (ap length lent) ∙ lent

pub returns-clause-tied : goal.returns-clause-tied
returns-clause-tied g c =
    let len : c.args.lines.now.len ≡ length c.args.lines.now.items = search rules in
    let lent = c.settle_slots.ensures.lines ∙ c.deref_mut.ensures.value in
    let back = back_of c.args.lines.now.items c.settle_slots.new.lines c.args.lines.now.len len (ap length lent) in
    subst (λ (l : List (LineView g.row.E.Denot WriterView)). AreTied c.settle_slots.new.caller.places l) (sym back) c.settle_slots.ensures.tied
