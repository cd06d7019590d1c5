use Rattle.std.proofs.Common.{◌≡◌}
use Rattle.rds_meter.specs.Places.{put_word, part}
use Rattle.rds_bench_tables.proofs.tables.adds.adds.Given as goal

abbrev pub invariant-loop : goal.invariant-loop
invariant-loop l = record { table : l.seat.table ≡ l.meter; part : part (put_word 0) l.seat.view.steps ≡ l.counter }
