use Rattle.std.proofs.Common.{◌≡◌, length, map, drop}
use Rattle.rds_host_end.specs.Joins.{IsFrom, sender_in}
use Rattle.rds_host_end.specs.Columns.{AtEachPlace, rows_left}
use Rattle.rds_host_end.specs.Shown.{ShowsAllPuts}
use Rattle.rds_host_end.proofs.receipts.join_all_receipts.Given as goal

abbrev pub invariant-loop-own : goal.invariant-loop-own
invariant-loop-own g l =
    (rows_left l.boxes ≡ map (drop (length l.yielded)) (rows_left l.fn.boxes))
    × AtEachPlace (ShowsAllPuts sender_in IsFrom) (map (λ b. b.get) l.yielded) (rows_left l.fn.boxes)
