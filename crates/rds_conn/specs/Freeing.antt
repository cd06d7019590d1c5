-- Freed bytes, counted for each slot until they are handed out. Source: this project's own.
use Rattle.std.specs.Prelude.{◌≡◌, ℕ, ◌+◌, ◌-◌, ◌<◌, ◌≤◌, ◌==◌, nat_lt, min, List, length, take, filter, sum, sum_by, slice_index, slice_set}
use Rattle.rds_wire.specs.declared.kind.TheConstants.{MAX_LENGTH}
use Rattle.rds_model.specs.declared.entry.Msg.{Msg}
use Rattle.rds_msgs.specs.Messages.{StoreView, bytes_of}
use Rattle.rds_conn.specs.declared.freed.Freed.{Freed}

-- more bytes of a slot are freed; a slot past the last has none
abbrev pub with_freed : ℕ → ℕ → List ℕ → List ℕ
with_freed slot bytes freed = slice_set freed slot (slice_index freed slot + bytes)

-- the bytes of the lowest slot that has any are handed out, as far as one datagram may have so many; those of the others stay
pub record HandsOutFreed (old new : List ℕ) (f : Freed) : Type 0 where
  pub slot_is : f.slot < length old
  pub lowest : sum (take f.slot old) ≡ 0
  pub some : 0 < f.bytes
  pub all : f.bytes ≡ min (slice_index old f.slot) MAX_LENGTH
  pub rest : new ≡ slice_set old f.slot (slice_index old f.slot - f.bytes)

-- the bytes of the messages of a slot
abbrev pub bytes_of_slot : ℕ → List Msg → ℕ
bytes_of_slot slot messages = sum_by (λ (m : Msg). m.len) (filter (λ (m : Msg). m.slot == slot) messages)

-- the store without the messages up to an acknowledged number
abbrev pub acknowledged : ℕ → StoreView → StoreView
acknowledged upto h = record h {
  messages = filter (λ (m : Msg). nat_lt upto m.num) h.messages;
  mark = length (filter (λ (m : Msg). nat_lt upto m.num) (take h.mark h.messages));
}

-- what left the store is freed: for each slot its bytes, and no more in all
pub record Frees (store_old store_new : StoreView) (freed_old freed_new : List ℕ) : Type 0 where
  pub slots : length freed_new ≡ length freed_old
  pub each : (slot : ℕ) → slot < length freed_old →
      slice_index freed_new slot + bytes_of_slot slot store_new.messages ≡ slice_index freed_old slot + bytes_of_slot slot store_old.messages
  pub all : sum freed_new + bytes_of store_new.messages ≤ sum freed_old + bytes_of store_old.messages
