-- When a connection may pull behind its map. Source: this project's own.
use Rattle.std.specs.Prelude.{◌≡◌, ℕ, Bool, true, false, Option, Some, None, is_some, List}
use Rattle.rds_model.specs.declared.entry.Entry.{Entry}
use Rattle.rds_model.specs.Owed.{last_map}
use Rattle.rds_conn.specs.Connection.{Connection, stream_of}

-- a map was pulled on this stream
abbrev pub is_mapped : Option ℕ → List Entry → Bool
is_mapped None past = false
is_mapped (Some stream) past = is_some (last_map stream past)

-- a stream is open, and a map was pulled on it
abbrev pub IsBehind : Connection → Type 0
IsBehind c = is_mapped (stream_of c) c.log.past ≡ true
