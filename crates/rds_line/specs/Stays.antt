-- What every turn of a line leaves as it was, and what may only grow. Source: this project's own.
use Rattle.std.specs.Prelude.{◌≡◌, ℕ, ◌≤◌, true, List, length}
use Rattle.rds_link.specs.Ends.{Means}
use Rattle.rds_model.specs.Honest.{Begins}
use Rattle.rds_model.specs.Past.{Moment}
use Rattle.rds_model.specs.declared.order.Datagram.{Datagram}
use Rattle.rds_mail.specs.Passes.{Putter}
use Rattle.rds_bindtab.specs.declared.view.Telling.{Telling}
use Rattle.rds_line_parts.specs.Boxes.{IsBoxOf}
use Rattle.rds_line_channel.specs.Meeting.{AtEach, StayPaired}
use Rattle.rds_line_channel.specs.Streams.{StreamsView, numbers}
use Rattle.rds_line_channel.specs.Channel.{ChannelView}
use Rattle.rds_line.specs.Acts.{Acts, acted}
use Rattle.rds_line.specs.Line.{LineView}
use Rattle.rds_line.specs.Seats.{WasAlwaysTold}

-- the same putters, of the same mailboxes
pub record AreSameBoxes (old new : List (Putter Datagram)) : Type 0 where
  pub count : length new ≡ length old
  pub each : (slot : ℕ) (box after : Putter Datagram) → IsBoxOf old slot box → IsBoxOf new slot after →
      (after.mail ≡ box.mail) × (after.number ≡ box.number) × (after.splits ≡ box.splits)

module _ {E : Type 0} (m : Means E) where
  -- an end sent and got more, or as much
  abbrev pub GoesFurther : E → E → Type 0
  GoesFurther old new = m.tells ≡ true → Begins (m.sent old) (m.sent new) × Begins (m.got old) (m.got new)

  -- the same streams, of which some more may be opened, and whose ends go further
  pub record StreamsStay (old new : StreamsView E) : Type 0 where
    pub numbers : numbers new.list ≡ numbers old.list
    pub opened : old.opened ≤ new.opened
    pub further : AtEach GoesFurther old.list new.list
    pub paired : StayPaired m old.list new.list

  -- the same connection, whose journal may have more entries, over the same streams
  pub record ChannelStays (old new : ChannelView E) : Type 0 where
    pub me : new.conn.me ≡ old.conn.me
    pub peer : new.conn.peer ≡ old.conn.peer
    pub slots : new.conn.slots ≡ old.conn.slots
    pub limit : new.conn.log.limit ≡ old.conn.log.limit
    pub past : Moment old.conn.log.past new.conn.log.past
    pub streams : StreamsStay old.streams new.streams
    pub cuts : Begins old.cuts.numbers new.cuts.numbers

  module _ {M Name : Type 0} (pair : M → Name) where
    pub record LineStays (old new : LineView E M) : Type 0 where
      pub channel : ChannelStays old.channel new.channel
      pub mail : new.orders.mail ≡ old.orders.mail
      pub told : new.orders.told ≡ old.orders.told
      pub joined : new.orders.joined ≡ old.orders.joined
      pub got : Begins old.orders.got new.orders.got
      pub boxes : AreSameBoxes old.boxes new.boxes
      -- its seats at the port table and the meter, which have made some more steps and checks
      pub ports : new.ports.table ≡ old.ports.table
      pub port_view : new.ports.view ≡ record old.ports.view { steps = new.ports.view.steps }
      pub looks : Begins old.ports.view.steps new.ports.view.steps
      -- what the one had been told before each of its looks it is told before each later one too
      pub always : (telling : Telling) → WasAlwaysTold telling old.ports.view → WasAlwaysTold telling new.ports.view
      pub words : new.words.table ≡ old.words.table
      pub slot : new.words.slot ≡ old.words.slot
      pub meter_view : new.words.view ≡ record old.words.view { checks = new.words.view.checks; steps = new.words.view.steps }
      pub steps : Begins old.words.view.steps new.words.view.steps
      -- each look, each step on a word and each entry that came is of an act of the line
      pub acts : Acts (acted old) (acted new)
      pub map : pair new.map ≡ pair old.map
