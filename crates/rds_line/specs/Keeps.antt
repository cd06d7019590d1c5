-- What a line keeps between its turns: what each of its parts has done is what its journal tells. Source: this project's own.
use Rattle.std.specs.Prelude.{◌≡◌, ℕ, suc, ◌≤◌, Bool, true, Some, List, [], ◌∷◌, length}
use Rattle.rds_model.specs.declared.entry.TheConstants.{MAX_SLOTS}
use Rattle.rds_model.specs.declared.order.Order.{Order}
use Rattle.rds_model.specs.declared.order.Order.TheVariants as order
use Rattle.rds_model.specs.Owed.{last_map}
use Rattle.rds_model.specs.Sums.{maps, orders}
use Rattle.rds_mail.specs.Numbers.{bare_items}
use Rattle.rds_conn.specs.Connection.{stream_of}
use Rattle.rds_line_parts.specs.Counted.{IsCountedFor, IsFreedFor, IsPutFor}
use Rattle.rds_line_parts.specs.Own.{IsAsRead}
use Rattle.rds_line.specs.Acts.{HasOnlyActed, acted}
use Rattle.rds_line.specs.Line.{LineView, line_past}
use Rattle.rds_line.specs.Seats.{AreFoundSet, AreLooksFor, StoresNothing}

-- the orders that aren't cuts
abbrev pub uncut : List Order → List Order
uncut [] = []
uncut (order.Cut ∷ list) = uncut list
uncut (other ∷ list) = other ∷ uncut list

-- how many of them are cuts
abbrev pub cuts_among : List Order → ℕ
cuts_among [] = 0
cuts_among (order.Cut ∷ list) = suc (cuts_among list)
cuts_among (other ∷ list) = cuts_among list

module _ {E M : Type 0} where
  pub record KeepsLine (published : M → List (List ℕ)) (v : LineView E M) : Type 0 where
    -- the orders that its getter took, cuts left out, are those of the journal, in order
    pub taken : uncut (bare_items v.orders.got) ≡ orders (line_past v)
    -- and each cut was noted
    pub cuts : cuts_among (bare_items v.orders.got) ≡ length v.channel.cuts.numbers
    -- what it put into the mailbox of each slot is what the journal delivered to the slot, in order
    pub put : IsPutFor v.channel.conn.peer (line_past v) v.boxes
    -- for each slot it counted the delivered bytes, with one check a delivery
    pub counted : IsCountedFor (line_past v) v.words.view
    -- for each slot, what it counted as freed and what the connection still holds are the bytes that aren't alive any more
    pub freed : IsFreedFor v.channel.conn v.words.view
    -- the maps that it published are those that the journal read, in order
    pub maps : published v.map ≡ maps (line_past v)
    -- the host's own map has in each word what the last load of it found
    pub read : IsAsRead v.own v.words.view.steps
    -- each port of the maps that were pulled was found set by a load
    pub pulled : AreFoundSet (line_past v) v.words.view.steps
    -- there is a mailbox for each slot of the port table
    pub boxes : length v.boxes ≡ v.ports.table.slots
    pub few : v.ports.table.slots ≤ MAX_SLOTS
    pub slots : v.channel.conn.slots ≡ MAX_SLOTS
    -- what became of each datagram is what a look of its seat at the port table had found, and that seat has claimed no port
    pub ported : AreLooksFor v.ports.table.slots (line_past v) v.ports.view.steps
    -- its seat at the meter has stored no receive limit
    pub stored : StoresNothing v.words.view.steps
    -- each look at the port table, each step on a word of the meter and each entry is of one of its acts, one after the other
    pub acts : HasOnlyActed (acted v)

  -- where the line notes that, the host's own map as it read that last is the one that was pulled last on the open stream
  abbrev pub IsPulled : Bool → LineView E M → Type 0
  IsPulled pulled v = pulled ≡ true → (s : ℕ) → stream_of v.channel.conn ≡ Some s → last_map s (line_past v) ≡ Some v.own.map

  -- what is so of a line at all times
  abbrev pub IsKept : (M → List (List ℕ)) → Bool → LineView E M → Type 0
  IsKept published pulled v = KeepsLine published v × IsPulled pulled v
