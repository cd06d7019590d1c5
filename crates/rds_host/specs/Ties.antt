-- What ties the slots of a host to its lines. Source: this project's own.
use Rattle.std.specs.Prelude.{◌≡◌, ℕ, zero, suc, ◌-◌, List, [], ◌∷◌, ◌++◌, Some, All, length, map, reverse, slice_get, take}
use Rattle.atomic_table.specs.Seated.{TableId}
use Rattle.rds_seats.specs.Views.{Table}
use Rattle.rds_model.specs.declared.entry.TheConstants.{MAX_SLOTS}
use Rattle.rds_model.specs.declared.order.Datagram.{Datagram}
use Rattle.rds_model.specs.declared.order.Order.{Order}
use Rattle.rds_mail.specs.Passes.{Getter, Putter, QueueId, first_getter}
use Rattle.rds_fmap.specs.Readers.{ReaderView, WriterView}
use Rattle.rds_socket_parts.specs.Lanes.{Lane, IsLaneAt}
use Rattle.rds_line_parts.specs.Boxes.{IsBoxOf}
use Rattle.rds_socket.specs.Holding.{Holding}
use Rattle.rds_line_channel.specs.Channel.{new_channel}
use Rattle.rds_line.specs.Line.{LineView}
use Rattle.rds_host.specs.Passes.{putter_number, splits_at}

-- what a route and the line that it leads to have in common: the peer, the queue of orders, and the pair of the peer's map
pub record Way : Type 0 where
  pub peer : ℕ
  pub mail : QueueId
  pub pair : TableId

-- what a host has for one peer: the way to it, the putters of its queue that are left, with the next slot's last, and the putters
-- at the mailboxes of the slots that were made
pub record ColumnView : Type 0 where
  pub way : Way
  pub passes : List (Putter Order)
  pub boxes : List (Putter Datagram)

-- the putter of the slot or the line at this place, of so many, which has put nothing
abbrev pub new_putter : {T : Type 0} → QueueId → (count place : ℕ) → Putter T
new_putter mail count place = record { mail = mail; number = putter_number place; splits = splits_at count place; put = [] }

-- the putters of so many slots, of `count` in all, from this one upward
abbrev pub putters_from : QueueId → (count slot left : ℕ) → List (Putter Order)
putters_from mail count slot zero = []
putters_from mail count slot (suc left) = new_putter mail count slot ∷ putters_from mail count (suc slot) left

-- a list begins so
abbrev pub IsFront : {X : Type 0} → List X → List X → Type 0
IsFront front all = (n : ℕ) × (front ≡ take n all)

-- a column whose next putter was taken
abbrev pub popped : ColumnView → ColumnView
popped c = record c { passes = take (length c.passes - 1) c.passes }

-- the putter was the next one of the column
abbrev pub IsNextOf : ColumnView → Putter Order → Type 0
IsNextOf c pass = c.passes ≡ (popped c).passes ++ pass ∷ []

abbrev pub with_box : Putter Datagram → ColumnView → ColumnView
with_box box c = record c { boxes = c.boxes ++ box ∷ [] }

-- each column with a putter more, at this mailbox, where the first is of the line at this place
abbrev pub with_boxes : QueueId → (count place : ℕ) → List ColumnView → List ColumnView
with_boxes mail count place [] = []
with_boxes mail count place (c ∷ columns) = with_box (new_putter mail count place) c ∷ with_boxes mail count (suc place) columns

abbrev pub ways_of : List ColumnView → List Way
ways_of columns = map (λ c. c.way) columns

abbrev pub peers_to : List Way → List ℕ
peers_to ways = map (λ way. way.peer) ways

abbrev pub lane_way : Lane ReaderView → Way
lane_way lane = record { peer = lane.peer; mail = lane.pass.mail; pair = lane.reader.pair }

-- each route has the next putter of the column in the same place
abbrev pub AreNextOf : List ColumnView → List (Lane ReaderView) → Type 0
AreNextOf columns routes = (place : ℕ) (lane : Lane ReaderView) (c : ColumnView) → IsLaneAt routes place lane → slice_get columns place ≡ Some c → IsNextOf c lane.pass

-- the mailbox of a slot
abbrev pub inbox_of : {R : Type 0} → Holding R → QueueId
inbox_of h = h.inbox.get.mail

-- the parts of what a host has for one peer are of one queue and one map, and nothing was done with them
pub record IsColumn (mail : QueueId) (orders : Getter Order) (passes : List (Putter Order)) (writer : WriterView) (readers : List ReaderView) (held : List (Putter Datagram)) : Type 0 where
  pub orders_of : orders.mail ≡ mail
  pub got : orders.got ≡ []
  pub joined : orders.joined ≡ []
  pub passes_of : All (λ p. p.mail ≡ mail) passes
  pub put : All (λ p. p.put ≡ []) passes
  pub published : writer.published ≡ []
  pub readers_of : All (λ r. r.pair ≡ writer.pair) readers
  pub boxes : All (λ b. b.put ≡ []) held

-- What a host of so many slots has for the peer at this place, of so many, once the slots with these mailboxes were made: the putters
-- of all later slots, and one at each mailbox.
pub record IsColumnFilled (slots lines place : ℕ) (mails : List QueueId) (c : ColumnView) : Type 0 where
  pub passes : c.passes ≡ reverse (putters_from c.way.mail slots (length mails) (slots - length mails))
  pub boxes : c.boxes ≡ map (λ mail. new_putter mail lines place) mails

abbrev pub AreColumnsFilled : (slots : ℕ) → List QueueId → List ColumnView → Type 0
AreColumnsFilled slots mails columns = (place : ℕ) (c : ColumnView) → slice_get columns place ≡ Some c → IsColumnFilled slots (length columns) place mails c

-- a new slot of so many, whose routes are these ways, at these tables
pub record IsSlotOf (slots : ℕ) (along : List Way) (table meter : Table) (h : Holding ReaderView) : Type 0 where
  pub ways : map lane_way h.routes ≡ along
  pub passes : All (λ lane. lane.pass ≡ new_putter lane.pass.mail slots h.words.slot) h.routes
  pub get : h.inbox.get ≡ first_getter (inbox_of h)
  pub ports : h.ports.table ≡ table
  pub words : h.words.seat.table ≡ meter
  pub total : h.total ≡ 0
  pub steps : h.words.seat.view.steps ≡ []

module _ {E : Type 0} where
  -- a new line of the host `me`, made of what the host has for one peer, over these streams, at these tables
  pub record IsLineOf (me limit : ℕ) (table meter : Table) (column : ColumnView) (list : List (ℕ × E)) (line : LineView E WriterView) : Type 0 where
    pub channel : line.channel ≡ new_channel me column.way.peer MAX_SLOTS limit list
    pub mail : line.orders.mail ≡ column.way.mail
    pub joined : line.orders.joined ≡ []
    pub pair : line.map.pair ≡ column.way.pair
    pub boxes : line.boxes ≡ column.boxes
    pub ports : line.ports.table ≡ table
    pub words : line.words.table ≡ meter
    pub looks : line.ports.view.steps ≡ []

  -- one such line of each column, over the streams in the same place
  pub record AreLinesOf (me limit : ℕ) (table meter : Table) (columns : List ColumnView) (streams : List (List (ℕ × E))) (lines : List (LineView E WriterView)) : Type 0 where
    pub count : length lines ≡ length columns
    pub each : (place : ℕ) (column : ColumnView) (list : List (ℕ × E)) (line : LineView E WriterView) →
        slice_get columns place ≡ Some column → slice_get streams place ≡ Some list → slice_get lines place ≡ Some line →
        IsLineOf me limit table meter column list line

  -- one line more, which is such a line
  abbrev pub AddsLine : (me limit : ℕ) → (table meter : Table) → ColumnView → List (ℕ × E) → (old new : List (LineView E WriterView)) → Type 0
  AddsLine me limit table meter column list old new = (line : LineView E WriterView) × (new ≡ old ++ line ∷ []) × IsLineOf me limit table meter column list line

  -- Slots and lines of one host: all are at the same tables, the route of each slot at each place leads to the line there, and
  -- each line delivers to the mailbox of each slot.
  pub record AreOfHost (vacants : List (Holding ReaderView)) (lines : List (LineView E WriterView)) : Type 0 where
    pub ports : (slot place : ℕ) (h : Holding ReaderView) (line : LineView E WriterView) → slice_get vacants slot ≡ Some h → slice_get lines place ≡ Some line →
        h.ports.table ≡ line.ports.table
    pub words : (slot place : ℕ) (h : Holding ReaderView) (line : LineView E WriterView) → slice_get vacants slot ≡ Some h → slice_get lines place ≡ Some line →
        h.words.seat.table ≡ line.words.table
    pub routes : (slot place : ℕ) (h : Holding ReaderView) (lane : Lane ReaderView) (line : LineView E WriterView) → slice_get vacants slot ≡ Some h → IsLaneAt h.routes place lane →
        slice_get lines place ≡ Some line → (lane.peer ≡ line.channel.conn.peer) × (lane.pass.mail ≡ line.orders.mail) × (lane.reader.pair ≡ line.map.pair)
    pub boxes : (slot place : ℕ) (h : Holding ReaderView) (line : LineView E WriterView) (box : Putter Datagram) → slice_get vacants slot ≡ Some h → slice_get lines place ≡ Some line →
        IsBoxOf line.boxes h.words.slot box → box.mail ≡ inbox_of h
