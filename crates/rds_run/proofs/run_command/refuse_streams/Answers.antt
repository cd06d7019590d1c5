use Rattle.std.proofs.Common.{◌∙◌}
use Rattle.rds_link.specs.Seen.{SinkSeen}
use Rattle.rds_run.proofs.Calling.{many_said}
use Rattle.rds_run.proofs.run_command.refuse_streams.Goals as goal

pub returns-in-Ok : goal.returns-in-Ok
returns-in-Ok g c =
    let sink : SinkSeen = record {
      held_before = g.K.Sink.held c.args.sink.now;
      held_after = g.K.Sink.held c.say.new.sink;
      faults_before = g.K.Sink.faults c.args.sink.now;
      faults_after = g.K.Sink.faults c.say.new.sink;
    } in
    many_said c.args.streams sink c.say.result _ (c.as_str.ensures.value ∙ c.in-Ok.ensures.ok) c.say.ensures.said c.say.ensures.front
