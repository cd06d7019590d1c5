-- What a turn of a line did, where it answers so. Source: this project's own.
use Rattle.std.specs.Prelude.{◌≡◌, ◌≢◌, ◌⊎◌, ℕ, suc, ◌<◌, Bool, true, false, Some, None, List, [], ◌∷◌, ◌++◌, length, slice_get}
use Rattle.rds_link.specs.Ends.{Means}
use Rattle.rds_link.specs.declared.end.Got.TheVariants as got
use Rattle.rds_link.specs.declared.end.Put.TheVariants as put
use Rattle.rds_wire.specs.declared.frame.Frame.{Frame}
use Rattle.rds_model.specs.declared.entry.Entry.{Entry}
use Rattle.rds_model.specs.declared.entry.Entry.TheVariants.{Pull}
use Rattle.rds_model.specs.declared.order.Order.{Order}
use Rattle.rds_model.specs.Honest.{Begins}
use Rattle.rds_model.specs.Owed.{owed_frame}
use Rattle.rds_model.specs.Past.{Moment}
use Rattle.rds_mail.specs.Learning.{AllGot}
use Rattle.rds_mail.specs.Numbers.{Number}
use Rattle.rds_mail.specs.Passes.{Getter, after_get, after_none}
use Rattle.rds_meter.specs.Seats.{MeterSeat}
use Rattle.rds_conn.specs.Connection.{stream_of}
use Rattle.rds_line_parts.specs.Own.{IsRefresh}
use Rattle.rds_line_channel.specs.StreamChanges.{ChangesAt, Receives, Sends}
use Rattle.rds_line_channel.specs.Streams.{newest_place}
use Rattle.rds_line_channel.specs.Channel.{ChannelView, arrived_bytes}
use Rattle.rds_line.specs.Line.{LineView, line_past, pulls_in}
use Rattle.rds_line.specs.declared.outcome.Heard.{Heard}
use Rattle.rds_line.specs.declared.outcome.Heard.TheVariants as heard
use Rattle.rds_line.specs.declared.outcome.Sent.{Sent}
use Rattle.rds_line.specs.declared.outcome.Sent.TheVariants as sent
use Rattle.rds_line.specs.declared.outcome.Turn.{Turn}
use Rattle.rds_line.specs.declared.outcome.Turn.TheVariants as turn

-- bytes came
abbrev pub is_bytes_heard : Heard → Bool
is_bytes_heard heard.Bytes = true
is_bytes_heard heard.Nothing = false
is_bytes_heard heard.Ended = false
is_bytes_heard heard.Closed = false

-- bytes went
abbrev pub is_bytes_sent : Sent → Bool
is_bytes_sent sent.Bytes = true
is_bytes_sent sent.Nothing = false
is_bytes_sent sent.Full = false
is_bytes_sent sent.Ended = false
is_bytes_sent sent.Closed = false

-- the turn came to its end, with no memory error and within the journal's limit
abbrev pub WentThrough : Turn → Type 0
WentThrough result = (result ≡ turn.Moved) ⊎ ((result ≡ turn.Idle) ⊎ (result ≡ turn.Over))

-- one order was taken
abbrev pub TakesOrder : Getter Order → Getter Order → Type 0
TakesOrder old new = (number : Number) × (order : Order) × (new ≡ after_get old number order)

-- No order was there. One look at the queue, which was counted, found it empty, so all orders that the getter was told of were got.
abbrev pub FindsNoOrder : Getter Order → Getter Order → Type 0
FindsNoOrder old new = (new ≡ after_none old) × AllGot new

-- the queue of orders was looked at once: one order was taken, or none was there
abbrev pub LooksForOrder : Getter Order → Getter Order → Type 0
LooksForOrder old new = TakesOrder old new ⊎ FindsNoOrder old new

module _ {E : Type 0} where
  -- where no frame waits and no byte that came is left, that stays
  abbrev pub LeavesNothing : ChannelView E → ChannelView E → Type 0
  LeavesNothing old new = old.conn.waiting ≡ None → old.piece ≡ [] → (new.conn.waiting ≡ None) × (new.piece ≡ [])

  -- where no entry was appended, there are more bytes that came and were not passed
  abbrev pub HoldsMore : ChannelView E → ChannelView E → Type 0
  HoldsMore old new = new.conn.log.past ≡ old.conn.log.past → length (arrived_bytes old) < length (arrived_bytes new)

  -- where no entry was appended, there are fewer bytes to write
  abbrev pub HasLessToWrite : ChannelView E → ChannelView E → Type 0
  HasLessToWrite old new = new.conn.log.past ≡ old.conn.log.past → length new.out < length old.out

  module _ (m : Means E) where
    -- The end of the open stream answered that no bytes are there. No frame waits, and no byte that came is left.
    pub record HearsNothing (old new : ChannelView E) : Type 0 where
      pub answer : ChangesAt (Receives m got.Nothing []) (newest_place old.streams) old.streams.list new.streams.list
      pub none_waits : new.conn.waiting ≡ None
      pub none_left : new.piece ≡ []

    -- bytes are to be written, and the end of the open stream answered that there is no room for them
    pub record FindsNoRoom (old new : ChannelView E) : Type 0 where
      pub answer : ChangesAt (Sends m put.Full []) (newest_place old.streams) old.streams.list new.streams.list
      pub on : new.streams.is_open ≡ true
      pub left : new.out ≢ []

    -- the end at this place got more bytes
    pub record GetsBytes (place : ℕ) (old new : List (ℕ × E)) : Type 0 where
      pub before_it : ℕ × E
      pub after_it : ℕ × E
      pub stood : slice_get old place ≡ Some before_it
      pub stands : slice_get new place ≡ Some after_it
      pub more : m.tells ≡ true → (piece : List ℕ) × (piece ≢ []) × (m.got after_it.1 ≡ m.got before_it.1 ++ piece)

    -- the end at this place sent more bytes
    pub record SendsBytes (place : ℕ) (old new : List (ℕ × E)) : Type 0 where
      pub before_it : ℕ × E
      pub after_it : ℕ × E
      pub stood : slice_get old place ≡ Some before_it
      pub stands : slice_get new place ≡ Some after_it
      pub more : m.tells ≡ true → (piece : List ℕ) × (piece ≢ []) × (m.sent after_it.1 ≡ m.sent before_it.1 ++ piece)

    -- Bytes came. The line itself shows it, of whatever kind its ends are: it holds more of what came, where it appended no entry.
    pub record BytesCame (old new : ChannelView E) : Type 0 where
      pub place : ℕ
      pub gets : GetsBytes place old.streams.list new.streams.list
      pub more : HoldsMore old new

    -- Bytes went. The line itself shows it too: it has less to write, where it appended no entry.
    pub record BytesWent (old new : ChannelView E) : Type 0 where
      pub place : ℕ
      pub sends : SendsBytes place old.streams.list new.streams.list
      pub less : HasLessToWrite old new

module _ {E M : Type 0} where
  -- The host's own map was looked at: the change number was loaded, and all words of the map where it isn't the number that was
  -- found before the last reading. What the line did at the meter before and after that are its other steps.
  pub record LoadsOwn (old new : LineView E M) : Type 0 where
    pub seat_before : MeterSeat
    pub seat_after : MeterSeat
    pub read : Bool
    pub refresh : IsRefresh old.own new.own seat_before seat_after read
    pub grown : Begins old.words.view.steps seat_before.view.steps
    pub goes_on : Begins seat_after.view.steps new.words.view.steps

  -- One frame was pulled, where nothing waited to be written. The host's own map was looked at in this turn, and the frame is the
  -- one that was owed with the map as it stands since.
  pub record PullsOwn (old new : LineView E M) : Type 0 where
    pub loads : LoadsOwn old new
    pub none_waited : old.channel.out ≡ []
    pub one : pulls_in (line_past new) ≡ suc (pulls_in (line_past old))
    -- the frame, and the journal before and after it
    pub stream : ℕ
    pub frame : Frame
    pub past : List Entry
    pub newer : List Entry
    pub is : line_past new ≡ newer ++ Pull stream frame ∷ past
    pub later : Moment (line_past old) past
    pub owed : owed_frame stream past new.own.map ≡ Some frame

  -- nothing is to be written, and no frame is owed
  pub record FindsNothingOwed (old new : LineView E M) : Type 0 where
    pub streams : new.channel.streams ≡ old.channel.streams
    pub none_left : new.channel.out ≡ []
    pub none_owed : (s : ℕ) → stream_of new.channel.conn ≡ Some s → owed_frame s (line_past new) new.own.map ≡ None

  -- there was no order, no stream is open, and none is left
  pub record IsOverTurn (old new : LineView E M) : Type 0 where
    pub orders : FindsNoOrder old.orders new.orders
    pub closed : new.channel.streams.is_open ≡ false
    pub last : new.channel.streams.opened ≡ length new.channel.streams.list

  module _ (m : Means E) where
    -- There was nothing to do: the queue of orders was found empty, nothing came, nothing went, and no entry was appended. Either no
    -- frame is owed, for which the host's own map was looked at, or there is no room for what is to be written.
    pub record IsIdleTurn (old new : LineView E M) : Type 0 where
      pub orders : FindsNoOrder old.orders new.orders
      pub past : line_past new ≡ line_past old
      pub on : new.channel.streams.is_open ≡ true
      pub middle : LineView E M
      pub hears : HearsNothing m old.channel middle.channel
      pub none_waits : new.channel.conn.waiting ≡ None
      pub none_left : new.channel.piece ≡ []
      pub sends : (FindsNothingOwed middle new × LoadsOwn old new) ⊎ FindsNoRoom m middle.channel new.channel

    -- an order was taken, the journal has more entries, or bytes came or went
    abbrev pub HasMoved : LineView E M → LineView E M → Type 0
    HasMoved old new =
        TakesOrder old.orders new.orders ⊎ ((length (line_past old) < length (line_past new))
        ⊎ (BytesCame m old.channel new.channel ⊎ BytesWent m old.channel new.channel))
