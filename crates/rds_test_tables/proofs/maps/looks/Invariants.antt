use Rattle.std.proofs.Common.{◌≡◌, ◌≤◌}
use Rattle.rds_test_tables.proofs.maps.looks.Given as goal

abbrev pub invariant-loop : goal.invariant-loop
invariant-loop l = record { pair : l.reader.pair ≡ l.initial.reader.pair; set : l.set ≤ l.counter }
