use Rattle.std.proofs.Common.{length, ◌-◌}
use Rattle.rds_link.proofs.Loops.{Written}
use Rattle.rds_link.proofs.sink.write_all.Given as goal

abbrev pub invariant-loop-written : goal.invariant-loop-written
invariant-loop-written g l = Written (g.K.Sink.held l.fn.sink) (g.K.Sink.held l.sink) (g.K.Sink.faults l.fn.sink) (g.K.Sink.faults l.sink) l.bytes l.written

abbrev pub decreases-loop-written : goal.decreases-loop-written
decreases-loop-written g l = length l.bytes - l.written
