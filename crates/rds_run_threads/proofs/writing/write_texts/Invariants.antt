use Rattle.std.proofs.Common.{◌≤◌, take, string_bytes}
use Rattle.std.specs.List.{flat_map}
use Rattle.rds_link.specs.Streaming.{SinkGained}
use Rattle.rds_run_threads.proofs.writing.write_texts.Given as goal

abbrev pub invariant-loop-text : goal.invariant-loop-text
invariant-loop-text g l = record {
  counts : g.K.Sink.faults l.fn.sink ≤ g.K.Sink.faults l.sink;
  gained : SinkGained (g.K.Sink.held l.fn.sink) (g.K.Sink.held l.sink) (flat_map string_bytes (take l.text-index l.texts));
}
