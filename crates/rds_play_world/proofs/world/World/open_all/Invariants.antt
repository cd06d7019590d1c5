use Rattle.std.proofs.Common.{◌≡◌, ℕ, ◌-◌, List}
use Rattle.std.specs.List.{range_with_len}
use Rattle.rds_history.specs.Courses.{each}
use Rattle.rds_history.specs.Drain.{open_if_closed, pairs}
use Rattle.rds_history.specs.Events.{Event}
use Rattle.rds_play_world.specs.Draining.{pairs_above}
use Rattle.rds_play_world.specs.Telling.{Tells, state}
use Rattle.rds_play_world.proofs.Eaching.{Reaches}
use Rattle.rds_play_world.proofs.world.World.open_all.Given as goal

abbrev pub invariant-loop-low : goal.invariant-loop-low
invariant-loop-low l =
    (l.self.count ≡ l.fn.self.count)
    × ((limit hosts : ℕ) (past : List Event) → Tells limit hosts past (state l.fn.self) →
    Reaches (λ _. Unit {0}) limit hosts (each (pairs hosts) (open_if_closed limit) past)
    (range_with_len l.low (hosts - l.low)) (λ low. each (pairs_above low hosts) (open_if_closed limit)) (state l.self))
