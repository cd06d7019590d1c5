use Rattle.std.proofs.Common.{◌≡◌, ◌-◌, ◌≤◌}
use Rattle.rds_run_rounds.specs.Grid.{rows_of}
use Rattle.rds_run_hosts.specs.Held.{ends_prepared}
use Rattle.rds_run_hosts.proofs.returning.give_back_rows.Given as goal

abbrev pub invariant-loop-row : goal.invariant-loop-row
invariant-loop-row g l =
    (g.W.Wire.out l.wire ≡ g.W.Wire.out l.fn.wire - ends_prepared (rows_of l.yielded)) × ((g.W.Wire.counted l.fn.wire).faults ≤ (g.W.Wire.counted l.wire).faults)
