-- What the fields of a connection keep.
use Rattle.std.specs.Prelude.{◌≡◌, ℕ, ◌+◌, ◌*◌, ◌<◌, ◌≤◌, Bool, if◌then◌else◌, Option, Some, None, is_some, IfSome, List, [], length, sum, slice_index}
use Rattle.rds_wire.specs.declared.kind.TheConstants.{MAX_LENGTH}
use Rattle.rds_frame.specs.Holding.{SplitterView as Frames, HoldsAtMostOneFrame, held_bytes, nothing_held}
use Rattle.rds_frame.specs.Splitting.{IsClear}
use Rattle.rds_model.specs.declared.entry.Entry.{Entry}
use Rattle.rds_model.specs.declared.entry.Msg.{Msg}
use Rattle.rds_model.specs.declared.journal.TheConstants.{MAX_ENTRIES}
use Rattle.rds_model.specs.Log.{Log}
use Rattle.rds_model.specs.Past.{open_stream, newest_stream, accepted, highest_pulled, last_passed}
use Rattle.rds_model.specs.Owed.{last_map}
use Rattle.rds_model.specs.declared.entry.TheConstants.{MAX_SLOTS}
use Rattle.rds_model.specs.Legal.{IsWhole}
use Rattle.rds_model.specs.Store.{HoldsMessages}
use Rattle.rds_msgs.specs.Messages.{StoreView, bytes_of}
use Rattle.rds_conn.specs.declared.conn.Conn.TheInside.{Inside}
use Rattle.rds_conn.specs.declared.asking.Asking.{Asking}
use Rattle.rds_conn.specs.Asking.{IsAsking}
use Rattle.rds_conn.specs.Connection.{Connection}
use Rattle.rds_conn.specs.Freeing.{bytes_of_slot}

-- the journal has room for the entries that are counted, and the store for the messages
pub record HasRoom (log : Log) (spare : ℕ) (store : StoreView) (store_spare : ℕ) : Type 0 where
  pub entries : spare ≤ log.spare
  pub within : length log.past + log.spare ≤ log.limit
  pub most : log.limit ≤ MAX_ENTRIES
  pub messages : store_spare ≤ store.spare

-- the counts are those of the journal
pub record IsCounted (past : List Entry) (count top newest : ℕ) : Type 0 where
  pub accepted_is : count ≡ accepted past
  pub highest_is : top ≡ highest_pulled past
  pub last_is : newest ≡ last_passed past

-- the fields tell which map was pulled last on stream s, and what was asked there
pub record IsLinked (s : ℕ) (past : List Entry) (mapped : Bool) (map : List ℕ) (asking : Asking) : Type 0 where
  pub map_is : last_map s past ≡ (if mapped then Some map else None)
  pub asked : IsAsking s past asking

-- what was taken of the open stream begins with no faulty header; where none is open nothing is held
pub record IsReading (stream : Option ℕ) (top : ℕ) (splitter : Frames) : Type 0 where
  pub held : HoldsAtMostOneFrame splitter
  pub clear : IsClear top 0 (held_bytes splitter)
  pub still_open : splitter.refused ≡ None
  pub idle : stream ≡ None → splitter ≡ nothing_held

-- the store holds the messages of the journal, for these slots
pub record IsStored (past : List Entry) (store : StoreView) (slots : ℕ) : Type 0 where
  pub holds : HoldsMessages store.messages store.mark past
  pub marked : store.mark ≤ length store.messages
  pub slots_are : store.slots ≡ slots
  pub few : slots ≤ MAX_SLOTS

-- for each slot its freed bytes are held, and no more bytes are freed or alive than were accepted
pub record IsFreed (past : List Entry) (store : StoreView) (freed : List ℕ) (slots : ℕ) : Type 0 where
  pub slots_are : length freed ≡ slots
  pub bounded : sum freed + bytes_of store.messages ≤ MAX_LENGTH * accepted past

-- for each slot the bytes are counted that its messages have, or that are freed and held
pub record IsCharged (messages : List Msg) (freed charges : List ℕ) (slots : ℕ) : Type 0 where
  pub wide : length charges ≡ slots
  pub each : (slot : ℕ) → slot < slots → slice_index charges slot ≡ slice_index freed slot + bytes_of_slot slot messages

-- a pong's payload is empty
abbrev pub IsPongPayload : Option (List ℕ) → Type 0
IsPongPayload payload = IfSome payload (λ bytes. bytes ≡ [])

-- what a connection keeps: its journal is legal and owes no pong, and its fields tell what the journal says
pub record ConnectionInvariant (c : Inside) : Type 0 where
  pub whole : IsWhole c.journal.past
  pub room : HasRoom c.journal c.spare c.store c.store_spare
  pub pong : IsPongPayload c.pong
  pub newest : c.newest ≡ newest_stream c.journal.past
  pub stream : c.stream ≡ open_stream c.journal.past
  pub counted : IsCounted c.journal.past c.accepted c.highest c.last
  pub linked : IfSome c.stream (λ s. IsLinked s c.journal.past c.mapped c.map c.asking)
  pub reading : IsReading c.stream c.highest c.splitter
  pub stored : IsStored c.journal.past c.store c.slots
  pub freed : IsFreed c.journal.past c.store c.freed c.slots
  pub charged : IsCharged c.store.messages c.freed c.charges c.slots

-- the connection that contracts see
abbrev pub connection_view : Inside → Connection
connection_view c = record {
  me = c.me;
  peer = c.peer;
  slots = c.slots;
  log = record { past = c.journal.past; spare = c.spare; limit = c.journal.limit };
  store_spare = c.store_spare;
  has_pong = is_some c.pong;
  waiting = c.splitter.waiting;
  rest = c.splitter.rest;
  freed = c.freed;
}
