use Rattle.std.proofs.Common.{◌≤◌, ◌+◌, sum_by}
use Rattle.std.specs.List.{range_with_len}
use Rattle.rds_run_rounds.specs.Grid.{rows_of}
use Rattle.rds_run_hosts.specs.Growing.{AreMissingBeside, AreRowsKnown, IsCount}
use Rattle.rds_run_hosts.specs.Streams.{streams_below}
use Rattle.rds_run_hosts.specs.Held.{ends_prepared}
use Rattle.rds_run_hosts.specs.Preparing.{AreAllCounted, AreAllPrepared}
use Rattle.rds_run_hosts.proofs.streams.prepare.Given as goal

abbrev pub invariant-loop-host : goal.invariant-loop-host
invariant-loop-host g l = record {
  prepared : AreAllPrepared g.W.End.End.means l.host (rows_of l.prepared.streams.items);
  wanted : AreRowsKnown l.cuts.items (rows_of l.prepared.streams.items) (rows_of l.prepared.wanted.items);
  counted : IsCount (g.W.Wire.counted l.wire).faults → AreAllCounted l.cuts.items (g.W.Wire.counted l.fn.wire).faults (g.W.Wire.counted l.wire).faults (rows_of l.prepared.streams.items);
  missing : IsCount (g.W.Wire.counted l.wire).faults →
      AreMissingBeside (sum_by (λ host. streams_below host l.cuts.items) (range_with_len 0 l.host)) 0 (ends_prepared (rows_of l.prepared.streams.items))
      (g.W.Wire.counted l.fn.wire).faults (g.W.Wire.counted l.wire).faults;
  grows : (g.W.Wire.counted l.fn.wire).faults ≤ (g.W.Wire.counted l.wire).faults;
  out : g.W.Wire.out l.wire ≤ g.W.Wire.out l.fn.wire + ends_prepared (rows_of l.prepared.streams.items);
}
