use Rattle.std.proofs.Common.{◌≡◌}
use Rattle.rds_fmap.proofs.Publication.{Publishing}
use Rattle.rds_fmap.proofs.words.writer.put_all.Given as goal

abbrev pub invariant-loop-j : goal.invariant-loop-j
invariant-loop-j l = record { table : l.seat.table_id ≡ l.initial.seat.table_id; view : Publishing l.map l.initial.seat.me.0 l.seat.me.0 l.j; slots : l.seat.me.1 ≡ l.initial.seat.me.1 }
