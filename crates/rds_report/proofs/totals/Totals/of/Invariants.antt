use Rattle.std.proofs.Common.{◌≡◌, ◌+◌, ◌*◌, ◌^◌, ◌≤◌, length}
use Rattle.rds_report.specs.ItemReport.{IsUp, tally}
use Rattle.rds_report.specs.ItemTotals.{bytes_of, count_all, grouped, seen_counts}
use Rattle.rds_report.specs.Summary.{plus}
use Rattle.rds_report.proofs.totals.Totals.of.Given as goal

abbrev pub invariant-loop-group : goal.invariant-loop-group
invariant-loop-group l = record {
  up : IsUp l.rest;
  counts : plus (seen_counts l.totals.counts) (tally (grouped l.rest)) ≡ tally (grouped l.items);
  counted : count_all (seen_counts l.totals.counts) + length l.rest ≤ length l.items;
  bytes : l.totals.bytes + bytes_of (grouped l.rest) ≡ bytes_of (grouped l.items);
  limit : l.totals.bytes + length l.rest * 2 ^ 32 ≤ length l.items * 2 ^ 32;
}

abbrev pub decreases-loop-group : goal.decreases-loop-group
decreases-loop-group l = length l.rest
