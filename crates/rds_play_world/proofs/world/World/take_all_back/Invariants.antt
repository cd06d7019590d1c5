use Rattle.std.proofs.Common.{◌≡◌, ℕ, Ok, List}
use Rattle.rds_text.specs.Ports.{below}
use Rattle.rds_history.specs.Courses.{each}
use Rattle.rds_history.specs.Events.{Event}
use Rattle.rds_play_world.specs.Coming.{Comes}
use Rattle.rds_play_world.specs.Telling.{Tells, state}
use Rattle.rds_play_world.proofs.Closing.{at_each}
use Rattle.rds_play_world.proofs.world.World.take_all_back.Given as goal

abbrev pub invariant-loop-peer : goal.invariant-loop-peer
invariant-loop-peer l = record {
  count : l.self.count ≡ l.fn.self.count;
  course : (limit hosts : ℕ) (past : List Event) → Tells limit hosts past (state l.fn.self) →
      Comes {A = Unit {0}} limit hosts (each (below l.peer) (at_each limit l.host l.slot) past) (Ok tt) (state l.self);
}
