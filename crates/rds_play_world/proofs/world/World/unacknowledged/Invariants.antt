use Rattle.std.proofs.Common.{◌≡◌, ◌≤◌, ◌*◌, ◌^◌, ℕ, List}
use Rattle.std.specs.Prelude.{sum_by}
use Rattle.rds_model.specs.Alive.{alive_bytes}
use Rattle.rds_history.specs.Events.{Event}
use Rattle.rds_history.specs.Journals.{journal, peers}
use Rattle.rds_play_world.specs.Telling.{Tells, state}
use Rattle.rds_play_world.proofs.world.World.unacknowledged.Given as goal

abbrev pub invariant-loop-peer : goal.invariant-loop-peer
invariant-loop-peer l = record {
  few : l.bytes ≤ l.peer * 2 ^ 52;
  told : (limit hosts : ℕ) (past : List Event) → Tells limit hosts past (state l.self) →
      l.bytes ≡ sum_by (λ k. alive_bytes l.slot (journal l.host k past)) (peers l.peer l.host);
}
