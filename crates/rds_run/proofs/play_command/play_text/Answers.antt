use Rattle.std.proofs.Common.{inl}
use Rattle.rds_link.specs.Seen.{SinkSeen, SourceSeen}
use Rattle.rds_script.specs.Grammar.{meaning}
use Rattle.rds_run.proofs.Sources.{none_read}
use Rattle.rds_run.proofs.Whole.{ends_of_played, ends_unread}
use Rattle.rds_run.proofs.play_command.play_text.Goals as goal

pub returns-in-Ok-clause-ends : goal.returns-in-Ok-clause-ends
returns-in-Ok-clause-ends g c =
    let source : SourceSeen = record {
      left = g.S.Source.left c.args.source.now;
      faults_before = g.S.Source.faults c.args.source.now;
      faults_after = g.S.Source.faults c.read_script.new.source;
    } in
    let sink : SinkSeen = record {
      held_before = g.K.Sink.held c.args.sink.now;
      held_after = g.K.Sink.held c.play_script.new.sink;
      faults_before = g.K.Sink.faults c.args.sink.now;
      faults_after = g.K.Sink.faults c.play_script.new.sink;
    } in
    let played = rw c.in-Ok.ensures.same at c.play_script.ensures in
    ends_of_played source sink (meaning c.in-Ok.script) c.play_script.result c.in-Ok.ensures.spelled played

pub returns-in-Err-clause-ends : goal.returns-in-Err-clause-ends
returns-in-Err-clause-ends g c =
    let source : SourceSeen = record {
      left = g.S.Source.left c.args.source.now;
      faults_before = g.S.Source.faults c.args.source.now;
      faults_after = g.S.Source.faults c.read_script.new.source;
    } in
    let sink : SinkSeen = record {
      held_before = g.K.Sink.held c.args.sink.now;
      held_after = g.K.Sink.held c.read_script.new.sink;
      faults_before = g.K.Sink.faults c.args.sink.now;
      faults_after = g.K.Sink.faults c.read_script.new.sink;
    } in
    ends_unread source sink c.in-Err.status c.in-Err.ensures.ends

pub returns-in-Ok-clause-tells : goal.returns-in-Ok-clause-tells
returns-in-Ok-clause-tells g c = inl c.in-Ok.ensures.quiet

pub returns-in-Err-clause-tells : goal.returns-in-Err-clause-tells
returns-in-Err-clause-tells g c = c.in-Err.ensures.tells

pub returns-in-Ok-clause-emptied : goal.returns-in-Ok-clause-emptied
returns-in-Ok-clause-emptied g c = λ of. c.in-Ok.ensures.emptied

pub returns-in-Err-clause-emptied : goal.returns-in-Err-clause-emptied
returns-in-Err-clause-emptied g c = λ of.
    let source : SourceSeen = record {
      left = g.S.Source.left c.args.source.now;
      faults_before = g.S.Source.faults c.args.source.now;
      faults_after = g.S.Source.faults c.read_script.new.source;
    } in
    let sink : SinkSeen = record {
      held_before = g.K.Sink.held c.args.sink.now;
      held_after = g.K.Sink.held c.read_script.new.sink;
      faults_before = g.K.Sink.faults c.args.sink.now;
      faults_after = g.K.Sink.faults c.read_script.new.sink;
    } in
    absurd (none_read source sink c.in-Err.status c.in-Err.ensures.ends of)
