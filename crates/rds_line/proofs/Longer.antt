-- What a longer journal has.
use Rattle.std.proofs.Common.{◌≤◌, List, length, arith}
use Rattle.rds_model.specs.declared.entry.Entry.{Entry}
use Rattle.rds_model.specs.Past.{Moment, now, before}

-- a journal is at least as long as at an earlier moment
pub longer : (past later : List Entry) → Moment past later → length past ≤ length later
longer past later now = omega arith
longer past later (before {e} {j} m) = let h = longer past j m in omega arith
