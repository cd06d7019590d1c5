use Rattle.std.proofs.Common.{◌≡◌, ◌≤◌, ◌*◌, ◌^◌, sum_by, take}
use Rattle.rds_run_rounds.specs.Causes.{alive_in_row}
use Rattle.rds_run_rounds.specs.Grid.{rows_of}
use Rattle.rds_run_rounds.proofs.counting.unacked.Given as goal

abbrev pub invariant-loop-host : goal.invariant-loop-host
invariant-loop-host g l = record {
  count : l.count ≡ sum_by alive_in_row (take l.host (rows_of l.fn.lines.items));
  most : l.count ≤ l.host * (7 * 2 ^ 32);
}
