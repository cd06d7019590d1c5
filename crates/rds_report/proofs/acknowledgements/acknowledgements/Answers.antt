use Rattle.std.proofs.Common.{◌≡◌, ◌∙◌, ◌+◌, ◌++◌, ◌∷◌, [], ℕ, List, sym, ap}
use Rattle.rds_model.specs.Past.{highest_ack}
use Rattle.rds_report.specs.TakenBackWalk.{before, acknowledgements}
use Rattle.rds_report.proofs.Steps.{before_next}
use Rattle.rds_report.proofs.acknowledgements.acknowledgements.Goals as goal

pub loop-entry-preserved : goal.loop-entry-preserved
loop-entry-preserved c =
    let all = c.args.journal.now.past in
    let past = before c.loop-entry.entry-index all in
    let more : before (c.loop-entry.entry-index + 1) all ≡ c.entry-item.result ∷ past = before_next all c.loop-entry.entry-index c.entry-item.result c.entries-entry-items.result.now c.entries-entry-items.ensures.list c.loop-entry-test.true c.entry-item.is in
    record {
      acks =
          c.in_ok-push.ensures.items ∙ ap (λ (l : List ℕ). l ++ c.loop-entry.acked ∷ []) c.loop-entry.invariant.acks
          ∙ ap (λ (n : ℕ). acknowledgements past ++ n ∷ []) c.loop-entry.invariant.acked ∙ sym (ap acknowledgements more);
      acked = c.acknowledged-acked.ensures past c.loop-entry.invariant.acked ∙ sym (ap highest_ack more);
    }
