use Rattle.std.proofs.Common.{◌≡◌, ◌-◌}
use Rattle.rds_host_end.specs.Risen.{StaysRisen}
use Rattle.rds_host.specs.Held.{ends_of_all}
use Rattle.rds_run_rounds.specs.Grid.{rows_of}
use Rattle.rds_run_threads.proofs.giving.end_lines.Given as goal

abbrev pub invariant-loop-row : goal.invariant-loop-row
invariant-loop-row g l =
    (g.W.Wire.out l.wire ≡ g.W.Wire.out l.fn.wire - ends_of_all (rows_of l.yielded))
    × StaysRisen (g.W.Wire.counted l.fn.wire).faults (g.W.Wire.counted l.wire).faults
