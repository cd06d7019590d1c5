use Rattle.std.proofs.Common.{◌≡◌, ◌≤◌, ◌*◌, ◌^◌, map, take}
use Rattle.std.specs.List.{sum_by}
use Rattle.rds_report.specs.ItemTotals.{count_all, totals_bytes, totals_counts}
use Rattle.rds_report.specs.Summary.{total}
use Rattle.rds_report.proofs.summing.together.Given as goal

abbrev pub invariant-loop-more : goal.invariant-loop-more
invariant-loop-more l = record {
  counts : totals_counts l.totals ≡ total (map totals_counts (take l.more-index l.each));
  bytes : l.totals.bytes ≡ sum_by totals_bytes (take l.more-index l.each);
  few : count_all (totals_counts l.totals) ≤ l.more-index * 2 ^ 64;
  short : l.totals.bytes ≤ l.more-index * 2 ^ 96;
}
