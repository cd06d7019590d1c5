use Rattle.std.proofs.Common.{ℕ, List, subst, ◌∙◌}
use Rattle.rds_link.specs.Seen.{SinkSeen}
use Rattle.rds_run_threads.specs.Ends.{Writes}
use Rattle.rds_run_threads.specs.Texts.{fault_line}
use Rattle.rds_run_threads.specs.declared.form.RunEnd.TheVariants as ended
use Rattle.rds_run_threads.proofs.answers.end_by_fault.Goals as goal

pub returns-clause-end : goal.returns-clause-end
returns-clause-end g c =
    let low = c.args.low in
    let high = c.args.high in
    let stream = c.last_stream-stream.result in
    let sink : SinkSeen = record {
      held_before = g.K.Sink.held c.args.sink.now;
      held_after = g.K.Sink.held c.write.new.sink;
      faults_before = g.K.Sink.faults c.args.sink.now;
      faults_after = g.K.Sink.faults c.write.new.sink;
    } in
    let own = c.args.own in
    let other = c.args.other in
    subst (λ (n : ℕ). Writes sink (fault_line low high n) (ended.WireFault low high n own other) c.write.result) c.last_stream-stream.ensures
    (subst (λ (text : List ℕ). Writes sink text (ended.WireFault low high stream own other) c.write.result) (c.as_str.ensures.value ∙ c.in_ok-text.ensures)
    c.write.ensures)
