use Rattle.std.proofs.Common.{ℕ, List, subst, ◌∙◌}
use Rattle.rds_link.specs.Seen.{SinkSeen}
use Rattle.rds_run_threads.specs.Ends.{Writes}
use Rattle.rds_run_threads.specs.declared.form.RunEnd.TheVariants as ended
use Rattle.rds_run_threads.proofs.answers.end_unfinished.Goals as goal

pub returns-clause-end : goal.returns-clause-end
returns-clause-end g c =
    let sink : SinkSeen = record {
      held_before = g.K.Sink.held c.args.sink.now;
      held_after = g.K.Sink.held c.write.new.sink;
      faults_before = g.K.Sink.faults c.args.sink.now;
      faults_after = g.K.Sink.faults c.write.new.sink;
    } in
    subst (λ (text : List ℕ). Writes sink text (ended.Unfinished c.args.count c.args.ends) c.write.result) (c.as_str.ensures.value ∙ c.in_ok-text.ensures.ok) c.write.ensures
