use Rattle.std.proofs.Common.{◌≡◌, ◌≤◌, ◌+◌, ℕ, length, sum_by}
use Rattle.std.specs.List.{range_with_len}
use Rattle.rds_run_rounds.specs.Grid.{rows_of}
use Rattle.rds_run_hosts.specs.Growing.{AreMissingBeside, AreRowsKnown, IsCount, LosesNone}
use Rattle.rds_run_hosts.specs.Streams.{streams_between}
use Rattle.rds_run_hosts.specs.Held.{ends_of_row, ends_prepared}
use Rattle.rds_run_hosts.specs.Preparing.{AreAllCounted}
use Rattle.rds_run_hosts.proofs.Counted.{IsCounted}
use Rattle.rds_run_hosts.proofs.Growing.{IsHalfway}
use Rattle.rds_run_hosts.proofs.Made.{IsPair}
use Rattle.rds_run_hosts.proofs.streams.add_host.Given as goal

abbrev pub invariant-loop-low : goal.invariant-loop-low
invariant-loop-low g l = record {
  half : IsHalfway (IsPair g.W.End.End.means) l.fn.host l.low (rows_of l.prepared.streams.items) l.row.streams.items;
  wanted : AreRowsKnown l.fn.all_cuts (rows_of l.prepared.streams.items) (rows_of l.prepared.wanted.items);
  row : length l.row.wanted.items ≡ l.low;
  counted : (before : ℕ) → before ≤ (g.W.Wire.counted l.fn.wire).faults → IsCount (g.W.Wire.counted l.wire).faults →
      AreAllCounted l.fn.all_cuts before (g.W.Wire.counted l.fn.wire).faults (rows_of l.fn.prepared.streams.items) →
      IsHalfway (IsCounted l.fn.all_cuts before (g.W.Wire.counted l.wire).faults) l.fn.host l.low (rows_of l.prepared.streams.items) l.row.streams.items;
  missing : IsCount (g.W.Wire.counted l.wire).faults →
      AreMissingBeside (sum_by (λ low. streams_between low l.fn.host l.fn.all_cuts) (range_with_len 0 l.low)) (ends_prepared (rows_of l.fn.prepared.streams.items))
      (ends_prepared (rows_of l.prepared.streams.items) + ends_of_row l.row.streams.items) (g.W.Wire.counted l.fn.wire).faults (g.W.Wire.counted l.wire).faults;
  grows : (g.W.Wire.counted l.fn.wire).faults ≤ (g.W.Wire.counted l.wire).faults;
  out : LosesNone (g.W.Wire.out l.fn.wire) (ends_prepared (rows_of l.fn.prepared.streams.items)) (g.W.Wire.out l.wire)
      (ends_prepared (rows_of l.prepared.streams.items) + ends_of_row l.row.streams.items);
}
