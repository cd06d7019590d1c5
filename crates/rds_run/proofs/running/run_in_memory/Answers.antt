use Rattle.std.proofs.Common.{rules}
use Rattle.rds_link.specs.Seen.{SinkSeen}
use Rattle.rds_script.specs.Grammar.{meaning}
use Rattle.rds_run.proofs.Begun.{begun_in_memory, risen_of}
use Rattle.rds_run.proofs.Ran.{in_memory_of, never_fails}
use Rattle.rds_run.proofs.running.run_in_memory.Goals as goal

-- refused where a call of the wire is to fail
pub returns : goal.returns
returns g c =
    let sink : SinkSeen = record {
      held_before = g.K.Sink.held c.args.sink.now;
      held_after = g.K.Sink.held c.run_script.new.sink;
      faults_before = g.K.Sink.faults c.args.sink.now;
      faults_after = g.K.Sink.faults c.run_script.new.sink;
    } in
    in_memory_of _ _ c.args.form (meaning c.args.script) sink c.run_script.result
    (λ fault. never_fails _ _ (search rules) (search rules) (c.run_script.ensures.may_fail fault))
    (λ fault. begun_in_memory c.args.form (meaning c.args.script) _ (never_fails _ _ (search rules) (search rules)) _ _ _ _ sink
    (risen_of _ c.args.form (meaning c.args.script) sink c.run_script.result fault c.run_script.ensures.ends) (c.run_script.ensures.begun fault))
    c.run_script.ensures.ends
