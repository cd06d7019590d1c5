-- What the two journals of a connection are once its lines have met. Source: this project's own.
use Rattle.std.specs.Prelude.{◌≡◌, ℕ, Bool, true, List}
use Rattle.rds_model.specs.declared.entry.Entry.{Entry}
use Rattle.rds_model.specs.Legal.{IsWhole}
use Rattle.rds_model.specs.Fifo.{IsFifo}
use Rattle.rds_model.specs.Honest.{IsHonest}
use Rattle.rds_model.specs.Pairs.{IsDeliveredOnce}

-- Both journals of the connection follow the rules. Where each stream gave a beginning of what was written to it, datagrams come first in,
-- first out and each once over the whole connection, both ways; and for each port pair those that were delivered are accepted ones, in order
-- and each once, and each accepted one up to the last that arrived is accounted for. Where the ends of the streams tell their bytes, each
-- stream did give that.
pub record AreSoundJournals (tells : Bool) (low high : List Entry) : Type 0 where
  pub low_legal : IsWhole low
  pub high_legal : IsWhole high
  pub honest : tells ≡ true → IsHonest low high
  pub fifo_forth : IsHonest low high → IsFifo low high
  pub fifo_back : IsHonest low high → IsFifo high low
  pub forth : IsHonest low high → (sport dport : ℕ) → IsDeliveredOnce sport dport low high
  pub back : IsHonest low high → (sport dport : ℕ) → IsDeliveredOnce sport dport high low
