use Rattle.std.proofs.Common.{◌≡◌, ℕ, ◌-◌, List}
use Rattle.std.specs.List.{range_with_len}
use Rattle.rds_history.specs.Courses.{each}
use Rattle.rds_history.specs.Drain.{open_if_closed}
use Rattle.rds_history.specs.Events.{Event}
use Rattle.rds_play_world.specs.Draining.{pairs_above}
use Rattle.rds_play_world.specs.Telling.{Tells, state}
use Rattle.rds_play_world.proofs.Eaching.{Reaches}
use Rattle.rds_play_world.proofs.world.World.open_above.Given as goal

abbrev pub invariant-loop-high : goal.invariant-loop-high
invariant-loop-high l =
    (l.self.count ≡ l.fn.self.count)
    × ((limit hosts : ℕ) (past : List Event) → Tells limit hosts past (state l.fn.self) →
    Reaches (λ _. Unit {0}) limit hosts (each (pairs_above l.fn.low hosts) (open_if_closed limit) past)
    (range_with_len l.high (hosts - l.high)) (λ high. open_if_closed limit (record { low = l.fn.low; high = high })) (state l.self))
