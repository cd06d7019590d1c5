use Rattle.std.proofs.Common.{◌≡◌, ◌≤◌, ◌+◌, ◌∙◌, ◌++◌, ◌∷◌, suc, Bool, Some, None, List, arith, sym, ap}
use Rattle.rds_model.specs.declared.entry.Entry.{Entry}
use Rattle.rds_model.specs.Past.{accepted}
use Rattle.rds_report.specs.Item.{Item}
use Rattle.rds_report.specs.Items.{acceptance_pair, accepted_items, sent_items}
use Rattle.rds_report.specs.TakenBackWalk.{before}
use Rattle.rds_report.proofs.Steps.{before_next, accepted_before}
use Rattle.rds_report.proofs.Gathered.{accepted_accept, accepted_other, sent_accept, sent_other}
use Rattle.rds_report.proofs.sent.add_acceptances.Goals as goal
use Rattle.rds_report.proofs.sent.add_acceptances.Goals.{in-Some+in_ok-add_accepted, in_default}

pub loop-entry-preserved : goal.loop-entry-preserved
loop-entry-preserved c =
    let all = c.args.journal.now.past in
    let past = before c.loop-entry.entry-index all in
    let more : before (c.loop-entry.entry-index + 1) all ≡ c.entry-item.result ∷ past = before_next all c.loop-entry.entry-index c.entry-item.result c.entries-entry-items.result.now c.entries-entry-items.ensures.list c.loop-entry-test.true c.entry-item.is in
    let known = c.loop-entry.invariant.number in
    let few = c.loop-entry.invariant.few in
    elim c.match-accepted_group.branch [
      | in-Some+in_ok-add_accepted w ↦
          let k = w.in-Some.group in
          let pair : acceptance_pair c.args.from c.args.to c.entry-item.result ≡ Some k = sym w.in-Some.ensures in
          let one : accepted (before (c.loop-entry.entry-index + 1) all) ≡ suc (accepted past) =
          ap accepted more ∙ accepted_accept c.args.from c.args.to c.entry-item.result k past pair in
          let most : accepted (before (c.loop-entry.entry-index + 1) all) ≤ accepted all = accepted_before (c.loop-entry.entry-index + 1) all in
          let next : c.loop-entry.n + 1 ≡ suc (accepted past) = omega (arith, known) in
          record {
            number = omega (arith, w.n-is, known, one);
            few = omega (arith, w.n-is, few);
            sent = λ test is.
                ap (λ v. v.items) w.items-is ∙ w.in_ok-add_accepted.ensures
                ∙ ap (λ (b : Bool). c.loop-entry.items.items ++ accepted_items k.from k.to k.sport k.dport b)
                (w.flag.ensures test (accepted all) is (omega (arith, most, one, known)) ∙ ap test next)
                ∙ sent_accept c.args.from c.args.to test c.entry-item.result k past c.args.items.now.items c.loop-entry.items.items pair (c.loop-entry.invariant.sent test is)
                ∙ ap (λ (p : List Entry). c.args.items.now.items ++ sent_items c.args.from c.args.to test p) (sym more);
          }
      | in_default w ↦
          let other : acceptance_pair c.args.from c.args.to c.entry-item.result ≡ None = sym w.in_default.ensures in
          let same : accepted (before (c.loop-entry.entry-index + 1) all) ≡ accepted past =
          ap accepted more ∙ accepted_other c.args.from c.args.to c.entry-item.result past other in
          record {
            number = omega (arith, w.n-is, known, same);
            few = omega (arith, w.n-is, few);
            sent = λ test is.
                ap (λ v. v.items) w.items-is ∙ c.loop-entry.invariant.sent test is
                ∙ ap (λ (l : List Item). c.args.items.now.items ++ l) (sym (sent_other c.args.from c.args.to test c.entry-item.result past other))
                ∙ ap (λ (p : List Entry). c.args.items.now.items ++ sent_items c.args.from c.args.to test p) (sym more);
          }
    ]
