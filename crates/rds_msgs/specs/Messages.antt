-- What contracts see of a store of messages, and what its calls make of it. Source: this project's own.
use Rattle.std.specs.Prelude.{ℕ, ◌-◌, ◌<◌, ◌==◌, ◌&&◌, not, Bool, List, length, take, drop, map, filter, sum_by}
use Rattle.std.specs.List.{AllPairs}
use Rattle.rds_model.specs.declared.entry.Msg.{Msg}
use Rattle.rds_model.specs.declared.entry.Target.{Target}
use Rattle.rds_model.specs.Alive.{aims_at}

-- the messages in the order of their numbers; how many of them, from the front, are pulled; for how many more there is
-- room; and below which number the slots are
pub record StoreView : Type 0 where
  pub messages : List Msg
  pub mark : ℕ
  pub spare : ℕ
  pub slots : ℕ

-- the number of each message is below those after it
abbrev pub IsAscending : List Msg → Type 0
IsAscending messages = AllPairs (λ (a b : Msg). a.num < b.num) messages

-- the numbers of messages
abbrev pub message_numbers : List Msg → List ℕ
message_numbers messages = map (λ (m : Msg). m.num) messages

-- the bytes of messages
abbrev pub bytes_of : List Msg → ℕ
bytes_of messages = sum_by (λ (m : Msg). m.len) messages

-- the messages of a slot
abbrev pub messages_from : ℕ → List Msg → List Msg
messages_from slot messages = filter (λ (m : Msg). m.slot == slot) messages

-- a cancellation by a slot takes a message: it is the slot's, and the target covers its destination port
abbrev pub covers_message : ℕ → Target → Msg → Bool
covers_message slot target m = slot == m.slot && aims_at target m.dport

-- the messages that a cancellation takes
abbrev pub covered_messages : ℕ → Target → List Msg → List Msg
covered_messages slot target messages = filter (covers_message slot target) messages

-- the messages that it leaves
abbrev pub uncovered_messages : ℕ → Target → List Msg → List Msg
uncovered_messages slot target messages = filter (λ m. not (covers_message slot target m)) messages

-- the store after a cancellation: of the messages that it leaves, those are pulled that were
abbrev pub after_cancel : ℕ → Target → StoreView → StoreView
after_cancel slot target h = record h {
  messages = uncovered_messages slot target h.messages;
  mark = length (uncovered_messages slot target (take h.mark h.messages));
}

-- the store without its first message
abbrev pub without_first : StoreView → StoreView
without_first h = record h { messages = drop 1 h.messages; mark = h.mark - 1 }
