-- What contracts see of a connection.
use Rattle.std.specs.Prelude.{◌≡◌, ℕ, ◌-◌, ◌≤◌, max, Bool, true, Option, List, ◌++◌, length, slice_index}
use Rattle.rds_wire.specs.declared.frame.Frame.{Frame}
use Rattle.rds_frame.specs.Holding.{waiting_bytes}
use Rattle.rds_model.specs.declared.entry.Entry.{Entry}
use Rattle.rds_model.specs.Log.{Log}
use Rattle.rds_model.specs.Past.{open_stream}

-- The addresses of its two hosts, and below which number the slots of sockets are; its journal; what is ready for the
-- next call, beside the journal's room: for how many messages there is room, and whether the payload of a pong is
-- there; of the open stream, the whole frame that waits, and the bytes that are no whole frame yet; and for each slot
-- the freed bytes that weren't handed out.
pub record Connection : Type 0 where
  pub me : ℕ
  pub peer : ℕ
  pub slots : ℕ
  pub log : Log
  pub store_spare : ℕ
  pub has_pong : Bool
  pub waiting : Option Frame
  pub rest : List ℕ
  pub freed : List ℕ

-- there is room for two entries and a message, and the payload of a pong
pub record IsReady (c : Connection) : Type 0 where
  pub entries : 2 ≤ c.log.spare
  pub messages : 1 ≤ c.store_spare
  pub pong : c.has_pong ≡ true

-- the connection, made ready
abbrev pub with_room : Connection → Connection
with_room c = record c {
  log = record c.log { spare = max c.log.spare 2 };
  store_spare = max c.store_spare 1;
  has_pong = true;
}

-- the open stream
abbrev pub stream_of : Connection → Option ℕ
stream_of c = open_stream c.log.past

-- the connection with more entries in its journal, the newest first
abbrev pub with_entries : List Entry → Connection → Connection
with_entries entries c = record c { log = record c.log { past = entries ++ c.log.past; spare = c.log.spare - length entries } }

-- the freed bytes of a slot that weren't handed out
abbrev pub freed_bytes_of : ℕ → Connection → ℕ
freed_bytes_of slot c = slice_index c.freed slot

-- the bytes that were taken of the open stream and not passed
abbrev pub taken_bytes : Connection → List ℕ
taken_bytes c = waiting_bytes c.waiting ++ c.rest
