-- What contracts see of a connection and the streams that carry it. Source: this project's own.
use Rattle.std.specs.Prelude.{◌≡◌, ℕ, Bool, false, List, [], ◌∷◌, ◌++◌, replicate, None}
use Rattle.rds_conn.specs.Connection.{Connection, taken_bytes}
use Rattle.rds_line_channel.specs.Streams.{StreamsView, unopened}

-- for each cut that was taken the number of the stream that it shut, or 0 where none was open; and whether there is room for one
-- more
pub record CutsView : Type 0 where
  pub numbers : List ℕ
  pub has_room : Bool

-- the connection; the bytes that are to be written to the open stream; those that came from it and that the connection hasn't
-- taken; the streams; and the cuts
pub record ChannelView (E : Type 0) : Type 0 where
  pub conn : Connection
  pub out : List ℕ
  pub piece : List ℕ
  pub streams : StreamsView E
  pub cuts : CutsView

-- a connection on which nothing has happened
abbrev pub new_connection : (me peer slots limit : ℕ) → Connection
new_connection me peer slots limit = record {
  me = me;
  peer = peer;
  slots = slots;
  log = record { past = []; spare = 0; limit = limit };
  store_spare = 0;
  has_pong = false;
  waiting = None;
  rest = [];
  freed = replicate slots 0;
}

-- the cuts once one was taken that shut the stream of this number, or found none open
abbrev pub noted_cut : CutsView → ℕ → CutsView
noted_cut cuts number = record { numbers = cuts.numbers ++ number ∷ []; has_room = false }

module _ {E : Type 0} where
  -- a channel on which nothing has happened
  abbrev pub new_channel : (me peer slots limit : ℕ) → List (ℕ × E) → ChannelView E
  new_channel me peer slots limit streams = record {
    conn = new_connection me peer slots limit;
    out = [];
    piece = [];
    streams = unopened streams;
    cuts = record { numbers = []; has_room = false };
  }

  -- nothing has happened on the channel, and it has no streams
  abbrev pub IsNewChannel : ChannelView E → Type 0
  IsNewChannel c = c ≡ new_channel c.conn.me c.conn.peer c.conn.slots c.conn.log.limit []

  -- the bytes of the open stream that came and were not passed
  abbrev pub arrived_bytes : ChannelView E → List ℕ
  arrived_bytes c = taken_bytes c.conn ++ c.piece

  -- only the connection changed
  abbrev pub with_conn : ChannelView E → Connection → ChannelView E
  with_conn c conn = record c { conn = conn }
