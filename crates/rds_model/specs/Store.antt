-- What a store of messages holds for a journal. Source: this project's own.
use Rattle.std.specs.Prelude.{◌≡◌, ℕ, Option, Some, None, List, length, map, drop}
use Rattle.std.specs.List.{filter_map}
use Rattle.std.specs.Option.{option_map}
use Rattle.rds_model.specs.declared.entry.Entry.{Entry}
use Rattle.rds_model.specs.declared.entry.Msg.{Msg}
use Rattle.rds_model.specs.Past.{Accepted, datagram, open_stream}
use Rattle.rds_model.specs.Alive.{alive_numbers, due_numbers}

-- the message of a datagram that was accepted under number n
abbrev pub message : ℕ → Accepted → Msg
message n d = record { num = n; place = d.place; slot = d.slot; dport = d.dport; len = length d.payload }

-- the messages of the numbers that are alive, ascending
abbrev pub alive_messages : List Entry → List Msg
alive_messages past = filter_map (λ n. option_map (message n) (datagram past n)) (alive_numbers past)

-- the numbers that are due on a stream, or all that are alive where none is open
abbrev pub due_on : Option ℕ → List Entry → List ℕ
due_on None past = alive_numbers past
due_on (Some s) past = due_numbers s past

-- A store holds the messages of a journal: one for each number that is alive, ascending, and behind its mark those that
-- weren't pulled on the open stream.
pub record HoldsMessages (messages : List Msg) (mark : ℕ) (past : List Entry) : Type 0 where
  pub alive : messages ≡ alive_messages past
  pub unpulled : map (λ (m : Msg). m.num) (drop mark messages) ≡ due_on (open_stream past) past
