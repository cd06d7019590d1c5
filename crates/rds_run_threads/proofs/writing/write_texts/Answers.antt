use Rattle.std.proofs.Common.{subst, string_bytes}
use Rattle.rds_link.specs.Streaming.{SinkGainedFront}
use Rattle.rds_run_threads.proofs.Fronts.{front_at, on_err}
use Rattle.rds_run_threads.proofs.writing.write_texts.Goals as goal

pub returns-in_err-write_all-clause-front : goal.returns-in_err-write_all-clause-front
returns-in_err-write_all-clause-front g c =
    let mid = g.K.Sink.held c.loop-text.sink in
    let new = g.K.Sink.held c.write_all.new.sink in
    on_err c.from_residual.result
    (front_at string_bytes c.args.texts.now c.loop-text.text-index c.text-item.result (g.K.Sink.held c.args.sink.now) mid new
    c.loop-text-test.true c.text-item.is c.loop-text.invariant.gained
    (subst (SinkGainedFront mid new) c.as_bytes.ensures.value c.write_all.ensures.front))
