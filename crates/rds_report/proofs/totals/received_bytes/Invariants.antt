use Rattle.std.proofs.Common.{◌≡◌, ◌≤◌, ◌*◌, ◌^◌, take}
use Rattle.rds_report.specs.ItemTotals.{bytes_of}
use Rattle.rds_report.proofs.totals.received_bytes.Given as goal

abbrev pub invariant-loop-item : goal.invariant-loop-item
invariant-loop-item l = record {
  so_far : l.bytes ≡ bytes_of (take l.item-index l.items);
  limit : l.bytes ≤ l.item-index * 2 ^ 32;
}
