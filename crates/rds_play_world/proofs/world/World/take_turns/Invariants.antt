use Rattle.std.proofs.Common.{◌≡◌, ℕ, ◌+◌, ◌-◌, ◌≤◌, Some, List}
use Rattle.rds_history.specs.Events.{Event}
use Rattle.rds_play_world.specs.Telling.{Tells, state}
use Rattle.rds_play_world.proofs.Turns.{IsMoving}
use Rattle.rds_play_world.proofs.world.World.take_turns.Given as goal

abbrev pub invariant-loop-turn : goal.invariant-loop-turn
invariant-loop-turn l =
    (l.self.count ≡ l.fn.self.count)
    × ((n : ℕ) → l.fn.most ≡ Some n → l.moved ≤ n)
    × ((limit hosts : ℕ) (past : List Event) → Tells limit hosts past (state l.fn.self) → l.fn.turns ≡ limit + 1 →
    IsMoving limit hosts l.fn.from l.fn.to l.fn.most past (l.fn.turns - l._turn) l.moved (state l.self))
