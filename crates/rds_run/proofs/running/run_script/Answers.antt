use Rattle.std.proofs.Common.{subst}
use Rattle.rds_link.specs.Seen.{SinkSeen}
use Rattle.rds_model.specs.declared.journal.TheConstants.{MAX_ENTRIES}
use Rattle.rds_script.specs.Grammar.{meaning}
use Rattle.rds_run_threads.specs.Ends.{IsEndOfRun}
use Rattle.rds_run.specs.RunStatus.{WireSeen}
use Rattle.rds_run.proofs.Begun.{begun_of}
use Rattle.rds_run.proofs.Ran.{filled_of, lacking_of, may_of, ran_of, unfinished_of}
use Rattle.rds_run.proofs.running.run_script.Goals as goal

-- refused where a run that didn't end well is told as one that did
pub returns-in-Ok-clause-ends : goal.returns-in-Ok-clause-ends
returns-in-Ok-clause-ends g c =
    let sink : SinkSeen = record {
      held_before = g.K.Sink.held c.args.sink.now;
      held_after = g.K.Sink.held c.run.new.sink;
      faults_before = g.K.Sink.faults c.args.sink.now;
      faults_after = g.K.Sink.faults c.run.new.sink;
    } in
    let seen : WireSeen = record {
      tells = g.W.End.End.means.tells;
      before = g.W.Wire.counted c.args.wire.now;
      after = g.W.Wire.counted c.run.new.wire;
    } in
    ran_of seen c.args.form (meaning c.args.script) sink c.run.result _ c.in-Ok.is c.run.ensures.end c.run.ensures.cut

pub returns-in-WireFault-clause-ends : goal.returns-in-WireFault-clause-ends
returns-in-WireFault-clause-ends g c =
    let sink : SinkSeen = record {
      held_before = g.K.Sink.held c.args.sink.now;
      held_after = g.K.Sink.held c.run.new.sink;
      faults_before = g.K.Sink.faults c.args.sink.now;
      faults_after = g.K.Sink.faults c.run.new.sink;
    } in
    let seen : WireSeen = record {
      tells = g.W.End.End.means.tells;
      before = g.W.Wire.counted c.args.wire.now;
      after = g.W.Wire.counted c.run.new.wire;
    } in
    lacking_of seen c.args.form (meaning c.args.script) sink c.run.result _ _ _ _ _ _ c.in-WireFault.is c.run.ensures.end c.run.ensures.counted c.run.ensures.cut

pub returns-in-WireFault-clause-may_fail : goal.returns-in-WireFault-clause-may_fail
returns-in-WireFault-clause-may_fail g c = λ same.
    let sink : SinkSeen = record {
      held_before = g.K.Sink.held c.args.sink.now;
      held_after = g.K.Sink.held c.run.new.sink;
      faults_before = g.K.Sink.faults c.args.sink.now;
      faults_after = g.K.Sink.faults c.run.new.sink;
    } in
    let seen : WireSeen = record {
      tells = g.W.End.End.means.tells;
      before = g.W.Wire.counted c.args.wire.now;
      after = g.W.Wire.counted c.run.new.wire;
    } in
    may_of seen c.args.form (meaning c.args.script) sink c.run.result _ _ _ _ _ _ c.in-WireFault.is c.run.ensures.counted

pub returns-in-Spent-clause-ends : goal.returns-in-Spent-clause-ends
returns-in-Spent-clause-ends g c =
    let sink : SinkSeen = record {
      held_before = g.K.Sink.held c.args.sink.now;
      held_after = g.K.Sink.held c.run.new.sink;
      faults_before = g.K.Sink.faults c.args.sink.now;
      faults_after = g.K.Sink.faults c.run.new.sink;
    } in
    let seen : WireSeen = record {
      tells = g.W.End.End.means.tells;
      before = g.W.Wire.counted c.args.wire.now;
      after = g.W.Wire.counted c.run.new.wire;
    } in
    filled_of seen c.args.form (meaning c.args.script) sink c.run.result _ _ _ _ _ c.in-Spent.is c.run.ensures.end

pub returns-in-Unfinished-clause-ends : goal.returns-in-Unfinished-clause-ends
returns-in-Unfinished-clause-ends g c =
    let sink : SinkSeen = record {
      held_before = g.K.Sink.held c.args.sink.now;
      held_after = g.K.Sink.held c.run.new.sink;
      faults_before = g.K.Sink.faults c.args.sink.now;
      faults_after = g.K.Sink.faults c.run.new.sink;
    } in
    let seen : WireSeen = record {
      tells = g.W.End.End.means.tells;
      before = g.W.Wire.counted c.args.wire.now;
      after = g.W.Wire.counted c.run.new.wire;
    } in
    unfinished_of seen c.args.form (meaning c.args.script) sink c.run.result _ _ _ c.in-Unfinished.is c.run.ensures.end c.run.ensures.counted c.run.ensures.cut

-- refused where a text of another form is begun
pub returns-in-WriteFault-clause-ends : goal.returns-in-WriteFault-clause-ends
returns-in-WriteFault-clause-ends g c =
    let sink : SinkSeen = record {
      held_before = g.K.Sink.held c.args.sink.now;
      held_after = g.K.Sink.held c.run.new.sink;
      faults_before = g.K.Sink.faults c.args.sink.now;
      faults_after = g.K.Sink.faults c.run.new.sink;
    } in
    let seen : WireSeen = record {
      tells = g.W.End.End.means.tells;
      before = g.W.Wire.counted c.args.wire.now;
      after = g.W.Wire.counted c.run.new.wire;
    } in
    let m = meaning c.args.script in
    begun_of seen c.args.form m (g.W.Wire.may_fail c.args.wire.now) sink
    (subst (IsEndOfRun c.args.form seen.tells MAX_ENTRIES m.hosts m.commands sink) c.in-WriteFault.is c.run.ensures.end) (c.run.ensures.begun c.in-WriteFault.is)
