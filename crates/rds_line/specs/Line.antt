-- What contracts see of a line. Source: this project's own.
use Rattle.std.specs.Prelude.{◌≡◌, ◌⊎◌, ℕ, suc, ◌+◌, ◌<◌, true, List, [], ◌∷◌, length}
use Rattle.rds_model.specs.declared.entry.Entry.{Entry}
use Rattle.rds_model.specs.declared.entry.Entry.TheVariants.{Accept, Bad, Cancel, Open, Pull, Read, Shut}
use Rattle.rds_model.specs.declared.order.Datagram.{Datagram}
use Rattle.rds_model.specs.declared.order.Order.{Order}
use Rattle.rds_mail.specs.Passes.{Getter, Putter}
use Rattle.rds_bindtab.specs.Seats.{PortSeat}
use Rattle.rds_meter.specs.Seats.{MeterSeat}
use Rattle.rds_line_parts.specs.Own.{Own}
use Rattle.rds_line_channel.specs.Channel.{ChannelView}
use Rattle.rds_line_channel.specs.Streams.{with_list}

-- its connection and its streams; the getter of its orders; its putter at the mailbox of each slot; its seats at the host's port
-- table and meter; the host's own map as it read that last; and who publishes the peer's map
pub record LineView (E M : Type 0) : Type 0 where
  pub channel : ChannelView E
  pub orders : Getter Order
  pub boxes : List (Putter Datagram)
  pub ports : PortSeat
  pub words : MeterSeat
  pub own : Own
  pub map : M

-- how many frames were pulled
abbrev pub pulls_in : List Entry → ℕ
pulls_in [] = 0
pulls_in (Accept slot sport dport payload ∷ past) = pulls_in past
pulls_in (Cancel slot target ∷ past) = pulls_in past
pulls_in (Open stream ∷ past) = pulls_in past
pulls_in (Pull stream frame ∷ past) = suc (pulls_in past)
pulls_in (Read stream frame outcome ∷ past) = pulls_in past
pulls_in (Shut stream ∷ past) = pulls_in past
pulls_in (Bad stream header cause ∷ past) = pulls_in past

module _ {E M : Type 0} where
  -- its journal, the newest entry first
  abbrev pub line_past : LineView E M → List Entry
  line_past v = v.channel.conn.log.past

  -- the same line, the ends of whose streams changed
  abbrev pub with_ends : LineView E M → List (ℕ × E) → LineView E M
  with_ends v list = record v { channel = record v.channel { streams = with_list v.channel.streams list } }

  -- a stream is open, or there is none that wasn't opened
  abbrev pub IsOpenOrLast : LineView E M → Type 0
  IsOpenOrLast v = (v.channel.streams.is_open ≡ true) ⊎ (v.channel.streams.opened ≡ length v.channel.streams.list)

  -- its journal has so many entries, and two more would pass its limit
  pub record IsFull (entries : ℕ) (v : LineView E M) : Type 0 where
    pub count : entries ≡ length (line_past v)
    pub most : v.channel.conn.log.limit < length (line_past v) + 2
