use Rattle.std.proofs.Common.{◌≡◌, ◌≤◌, ◌*◌, ◌^◌, sum_by, take}
use Rattle.rds_run_rounds.specs.Causes.{alive_in_line}
use Rattle.rds_run_rounds.proofs.counting.unacked_of.Given as goal

abbrev pub invariant-loop-place : goal.invariant-loop-place
invariant-loop-place g l = record {
  count : l.count ≡ sum_by alive_in_line (take l.place l.fn.row.items);
  most : l.count ≤ l.place * 2 ^ 32;
}
