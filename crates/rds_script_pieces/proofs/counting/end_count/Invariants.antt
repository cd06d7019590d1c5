use Rattle.std.proofs.Common.{◌≡◌, ◌≤◌, take}
use Rattle.std.specs.List.{count_by}
use Rattle.rds_script.specs.Text.{is_end}
use Rattle.rds_script_pieces.proofs.counting.end_count.Given as goal

abbrev pub invariant-loop-byte : goal.invariant-loop-byte
invariant-loop-byte l = record {
  count : l.count ≡ count_by is_end (take l.byte-index l.text);
  few : l.count ≤ l.byte-index;
}
