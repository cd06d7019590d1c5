use Rattle.std.proofs.Common.{◌≡◌, ℕ, ◌-◌, List}
use Rattle.std.specs.List.{range_with_len}
use Rattle.rds_history.specs.Courses.{each}
use Rattle.rds_history.specs.Drain.{both_ways, round}
use Rattle.rds_history.specs.Events.{Event}
use Rattle.rds_play_world.specs.Draining.{SaysMoved, pairs_above}
use Rattle.rds_play_world.specs.Telling.{Tells, state}
use Rattle.rds_play_world.proofs.Eaching.{Reaches}
use Rattle.rds_play_world.proofs.world.World.round.Given as goal

abbrev pub invariant-loop-low : goal.invariant-loop-low
invariant-loop-low l =
    (l.self.count ≡ l.fn.self.count)
    × ((limit hosts : ℕ) (past : List Event) → Tells limit hosts past (state l.fn.self) →
    Reaches (λ mid. SaysMoved past mid l.moved) limit hosts (round limit hosts past)
    (range_with_len l.low (hosts - l.low)) (λ low. each (pairs_above low hosts) (both_ways limit)) (state l.self))
