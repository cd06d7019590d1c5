use Rattle.std.proofs.Common.{◌≡◌, ℕ, ◌-◌, List}
use Rattle.std.specs.List.{range_with_len}
use Rattle.rds_history.specs.Courses.{each}
use Rattle.rds_history.specs.Drain.{both_ways}
use Rattle.rds_history.specs.Events.{Event}
use Rattle.rds_play_world.specs.Draining.{SaysMoved, pairs_above}
use Rattle.rds_play_world.specs.Telling.{Tells, state}
use Rattle.rds_play_world.proofs.Eaching.{Reaches}
use Rattle.rds_play_world.proofs.world.World.round_above.Given as goal

abbrev pub invariant-loop-high : goal.invariant-loop-high
invariant-loop-high l =
    (l.self.count ≡ l.fn.self.count)
    × ((limit hosts : ℕ) (past : List Event) → Tells limit hosts past (state l.fn.self) →
    Reaches (λ mid. SaysMoved past mid l.moved) limit hosts (each (pairs_above l.fn.low hosts) (both_ways limit) past)
    (range_with_len l.high (hosts - l.high)) (λ high. both_ways limit (record { low = l.fn.low; high = high })) (state l.self))
