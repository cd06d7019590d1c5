-- What a piece of the open stream does. Source: this project's own.
use Rattle.std.specs.Prelude.{◌≡◌, ℕ, ◌<◌, ◌≤◌, false, true, Some, None, is_some, List, [], ◌∷◌, ◌++◌, length, take}
use Rattle.rds_wire.specs.declared.header.Header.{Header}
use Rattle.rds_wire.specs.declared.kind.Malformed.{Malformed}
use Rattle.rds_wire.specs.Bytes.{header_bytes, IsHeader}
use Rattle.rds_wire.specs.Kinds.{cause}
use Rattle.rds_model.specs.declared.entry.Entry.TheVariants.{Bad}
use Rattle.rds_model.specs.Past.{highest_pulled}
use Rattle.rds_conn.specs.declared.conn.Fed.{Fed}
use Rattle.rds_conn.specs.Connection.{Connection, with_entries, stream_of, taken_bytes}

-- the front of the piece was taken: all of it, or as much as makes a frame whole, and nothing where one waits
pub record Feeds (piece : List ℕ) (old new : Connection) (fed : Fed) : Type 0 where
  pub used : fed.used ≤ length piece
  pub bytes : taken_bytes new ≡ taken_bytes old ++ take fed.used piece
  pub rest_same : new ≡ record old { waiting = new.waiting; rest = new.rest }
  pub waiting : fed.waiting ≡ is_some new.waiting
  pub all : fed.waiting ≡ false → fed.used ≡ length piece
  pub progress : old.waiting ≡ None → fed.waiting ≡ true → 0 < fed.used

-- with the front of the piece a header became whole that has this fault, which ended the stream
pub record RefusesHeader (piece : List ℕ) (fault : Malformed) (old new : Connection) : Type 0 where
  pub s : ℕ
  pub header : Header
  pub used : ℕ
  pub on : stream_of old ≡ Some s
  pub fits : IsHeader header
  pub fault_is : cause header (highest_pulled old.log.past) 0 ≡ Some fault
  pub within : used ≤ length piece
  pub bytes : header_bytes header ≡ taken_bytes old ++ take used piece
  pub entry : new ≡ record (with_entries (Bad s header fault ∷ []) old) { waiting = None; rest = [] }
