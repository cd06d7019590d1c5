use Rattle.std.proofs.Common.{inl, inr}
use Rattle.rds_link.specs.Seen.{SinkSeen, SourceSeen}
use Rattle.rds_script.specs.Grammar.{meaning}
use Rattle.rds_run.proofs.Calling.{run_read, run_unread, too_many_read, too_many_unread}
use Rattle.rds_run.proofs.Sources.{none_read}
use Rattle.rds_run.proofs.run_command.run_text.Goals as goal

pub returns-in-Ok-clause-ends : goal.returns-in-Ok-clause-ends
returns-in-Ok-clause-ends g c =
    let ran = rw c.in-Ok.ensures.same at c.run_over.ensures.ends in
    inr (meaning c.in-Ok.script, c.in-Ok.ensures.spelled, ran)

pub returns-in-Err-clause-ends : goal.returns-in-Err-clause-ends
returns-in-Err-clause-ends g c = inl c.in-Err.ensures.ends

pub returns-in-Ok-clause-too_many : goal.returns-in-Ok-clause-too_many
returns-in-Ok-clause-too_many g c s told many =
    let sink : SinkSeen = record {
      held_before = g.K.Sink.held c.args.sink.now;
      held_after = g.K.Sink.held c.run_over.new.sink;
      faults_before = g.K.Sink.faults c.args.sink.now;
      faults_after = g.K.Sink.faults c.run_over.new.sink;
    } in
    let ran = rw c.in-Ok.ensures.same at c.run_over.ensures.ends in
    inl (too_many_read _ _ _ s sink c.run_over.result (c.in-Ok.ensures.reads s told) many ran)

pub returns-in-Err-clause-too_many : goal.returns-in-Err-clause-too_many
returns-in-Err-clause-too_many g c s told many =
    let source : SourceSeen = record {
      left = g.S.Source.left c.args.source.now;
      faults_before = g.S.Source.faults c.args.source.now;
      faults_after = g.S.Source.faults c.read_script.new.source;
    } in
    let sink : SinkSeen = record {
      held_before = g.K.Sink.held c.args.sink.now;
      held_after = g.K.Sink.held c.read_script.new.sink;
      faults_before = g.K.Sink.faults c.args.sink.now;
      faults_after = g.K.Sink.faults c.read_script.new.sink;
    } in
    too_many_unread s source sink c.in-Err.status (c.in-Err.ensures.reads s told) c.in-Err.ensures.ends

pub returns-in-Ok-clause-runs : goal.returns-in-Ok-clause-runs
returns-in-Ok-clause-runs g c s told read =
    let sink : SinkSeen = record {
      held_before = g.K.Sink.held c.args.sink.now;
      held_after = g.K.Sink.held c.run_over.new.sink;
      faults_before = g.K.Sink.faults c.args.sink.now;
      faults_after = g.K.Sink.faults c.run_over.new.sink;
    } in
    let ran = rw c.in-Ok.ensures.same at c.run_over.ensures.ends in
    inl (run_read _ _ _ s sink c.run_over.result (c.in-Ok.ensures.reads s told) ran)

pub returns-in-Err-clause-runs : goal.returns-in-Err-clause-runs
returns-in-Err-clause-runs g c s told read =
    let source : SourceSeen = record {
      left = g.S.Source.left c.args.source.now;
      faults_before = g.S.Source.faults c.args.source.now;
      faults_after = g.S.Source.faults c.read_script.new.source;
    } in
    inr (run_unread s source c.in-Err.status (c.in-Err.ensures.reads s told) read)

pub returns-in-Ok-clause-tells : goal.returns-in-Ok-clause-tells
returns-in-Ok-clause-tells g c = inl c.in-Ok.ensures.quiet

pub returns-in-Err-clause-tells : goal.returns-in-Err-clause-tells
returns-in-Err-clause-tells g c = c.in-Err.ensures.tells

pub returns-in-Ok-clause-emptied : goal.returns-in-Ok-clause-emptied
returns-in-Ok-clause-emptied g c = λ of. c.in-Ok.ensures.emptied

pub returns-in-Err-clause-emptied : goal.returns-in-Err-clause-emptied
returns-in-Err-clause-emptied g c = λ of.
    let source : SourceSeen = record {
      left = g.S.Source.left c.args.source.now;
      faults_before = g.S.Source.faults c.args.source.now;
      faults_after = g.S.Source.faults c.read_script.new.source;
    } in
    let sink : SinkSeen = record {
      held_before = g.K.Sink.held c.args.sink.now;
      held_after = g.K.Sink.held c.read_script.new.sink;
      faults_before = g.K.Sink.faults c.args.sink.now;
      faults_after = g.K.Sink.faults c.read_script.new.sink;
    } in
    absurd (none_read source sink c.in-Err.status c.in-Err.ensures.ends of)
