-- What the calls of a channel do. Source: this project's own.
use Rattle.std.specs.Prelude.{◌≡◌, ◌<◌, ℕ, ◌+◌, Bool, true, false, Some, None, [], ◌∷◌, drop, slice_get}
use Rattle.rds_wire.specs.declared.kind.Malformed.{Malformed}
use Rattle.rds_link.specs.Ends.{Means}
use Rattle.rds_model.specs.declared.entry.Entry.TheVariants as entry
use Rattle.rds_conn.specs.declared.conn.Fed.{Fed}
use Rattle.rds_conn.specs.Connection.{freed_bytes_of, with_entries, stream_of}
use Rattle.rds_conn.specs.Feeding.{Feeds, RefusesHeader}
use Rattle.rds_conn.specs.Orders.{after_order}
use Rattle.rds_conn.specs.Released.{released_bytes}
use Rattle.rds_model.specs.declared.order.Order.{Order}
use Rattle.rds_line_channel.specs.StreamChanges.{ChangesAt, IsShutDown}
use Rattle.rds_line_channel.specs.Streams.{StreamsView, newest_place, numbers}
use Rattle.rds_line_channel.specs.Channel.{ChannelView, noted_cut, with_conn}

module _ {E : Type 0} where
  -- the next stream was opened, which has this number
  pub record OpensNext (old new : ChannelView E) : Type 0 where
    pub number : ℕ
    pub next : slice_get (numbers old.streams.list) old.streams.opened ≡ Some number
    pub is : new ≡ record old {
      conn = with_entries (entry.Open number ∷ []) old.conn;
      streams = record old.streams { opened = old.streams.opened + 1; is_open = true };
    }

  module _ (m : Means E) where
    -- the end of the open stream was shut, and none is open
    pub record EndsStream (old new : StreamsView E) : Type 0 where
      pub change : ChangesAt (IsShutDown m) (newest_place old) old.list new.list
      pub is : new ≡ record old { list = new.list; is_open = false }

    -- The open stream, which has this number, was shut. What came of it and wasn't passed, and what was to be written to it, was
    -- given up.
    pub record ShutsStream (number : ℕ) (old new : ChannelView E) : Type 0 where
      pub on : stream_of old.conn ≡ Some number
      pub streams : EndsStream old.streams new.streams
      pub conn : new.conn ≡ record (with_entries (entry.Shut number ∷ []) old.conn) { waiting = None; rest = [] }
      pub out : new.out ≡ []
      pub piece : new.piece ≡ []

    -- a header was refused that came with the piece, and the stream was ended
    pub record EndsRefused (old new : ChannelView E) : Type 0 where
      pub fault : Malformed
      pub refuses : RefusesHeader old.piece fault old.conn new.conn
      pub streams : EndsStream old.streams new.streams
      pub out : new.out ≡ []
      pub piece : new.piece ≡ []
      pub cuts : new.cuts ≡ old.cuts

    -- a cut was taken that found the stream of this number open
    abbrev pub CutsStream : ℕ → ChannelView E → ChannelView E → Type 0
    CutsStream number old new = ShutsStream number old new × (new.cuts ≡ noted_cut old.cuts number)

  -- an order was taken that isn't a cut; what it freed stands in the table of freed bytes
  abbrev pub AppendsOrder : Order → ChannelView E → ChannelView E → Type 0
  AppendsOrder order old new = new ≡ with_conn old (record (after_order order old.conn) { freed = new.conn.freed })

  -- of each slot the bytes that the journal released since stand in the table of freed bytes
  abbrev pub FreesReleased : ChannelView E → ChannelView E → Type 0
  FreesReleased old new = (slot : ℕ) → slot < old.conn.slots →
      freed_bytes_of slot new.conn + released_bytes slot old.conn.log.past ≡ freed_bytes_of slot old.conn + released_bytes slot new.conn.log.past

  -- the connection took bytes from the front of the piece, and now a whole frame waits or not
  pub record TakesBytes (waits : Bool) (old new : ChannelView E) : Type 0 where
    pub fed : Fed
    pub feeds : Feeds old.piece old.conn new.conn fed
    pub waiting : fed.waiting ≡ waits
    pub is : new ≡ record old { conn = new.conn; piece = drop fed.used old.piece }
