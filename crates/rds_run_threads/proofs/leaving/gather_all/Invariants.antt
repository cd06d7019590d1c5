use Rattle.std.proofs.Common.{◌≡◌, ◌-◌, List, length, take, OnOk}
use Rattle.rds_run_callers.specs.Places.{CallerView}
use Rattle.rds_host.specs.Held.{ends_of_all}
use Rattle.rds_run_rounds.specs.Grid.{rows_of}
use Rattle.rds_run_threads.specs.Settled.{HaveEnded, HaveHeardBelow, HaveSettled}
use Rattle.rds_run_threads.proofs.Left.{AreLeftBelow}
use Rattle.rds_run_threads.proofs.leaving.gather_all.Given as goal

abbrev pub invariant-loop-slots : goal.invariant-loop-slots
invariant-loop-slots g l =
    (l.host ≡ length l.yielded)
    × ((callers told : List CallerView) → HaveSettled callers (rows_of l.fn.lines.items) →
    HaveHeardBelow (length callers) callers told (rows_of l.fn.lines.items) → HaveEnded told l.fn.left.items →
    OnOk l.all (AreLeftBelow (length l.yielded) callers (rows_of l.fn.lines.items) l.ends.items))
    × (g.W.Wire.out l.wire ≡ g.W.Wire.out l.fn.wire - ends_of_all (take (length l.yielded) (rows_of l.fn.lines.items)))
