use Rattle.std.proofs.Common.{◌≡◌, ℕ, ◌-◌, List}
use Rattle.rds_history.specs.Courses.{again}
use Rattle.rds_history.specs.Drain.{round, rounds}
use Rattle.rds_history.specs.Events.{Event}
use Rattle.rds_play_world.specs.Telling.{Tells, state}
use Rattle.rds_play_world.proofs.Eaching.{RunsOn}
use Rattle.rds_play_world.proofs.world.World.all_rounds.Given as goal

abbrev pub invariant-loop : goal.invariant-loop
invariant-loop l =
    (l.self.count ≡ l.fn.self.count) × (l.end ≡ rounds l.fn.self.limit)
    × ((limit hosts : ℕ) (past : List Event) → Tells limit hosts past (state l.fn.self) →
    RunsOn limit hosts (again (rounds limit) (round limit hosts) past) (l.end - l.counter) (round limit hosts) (state l.self))
