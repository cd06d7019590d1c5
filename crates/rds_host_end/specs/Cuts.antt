-- The cuts that the slots of a host asked for, and the streams that the journals of its lines shut. Source: this project's own.
use Rattle.std.specs.Prelude.{◌≡◌, ◌⊎◌, ℕ, zero, suc, ◌≤◌, List, [], ◌∷◌, Some, None, slice_get}
use Rattle.rds_seats.specs.Views.{total}
use Rattle.rds_model.specs.declared.entry.Entry.{Entry}
use Rattle.rds_model.specs.Past.{open_stream}
use Rattle.rds_model.specs.Sums.{opens}
use Rattle.rds_mail.specs.Learning.{AllGot}
use Rattle.rds_mail.specs.Numbers.{bare_items}
use Rattle.rds_socket_parts.specs.Lanes.{Lane}
use Rattle.rds_socket.specs.Holding.{Holding}
use Rattle.rds_line_channel.specs.Streams.{numbers}
use Rattle.rds_line_channel.specs.Carried.{shuts}
use Rattle.rds_line.specs.Keeps.{cuts_among}
use Rattle.rds_line.specs.Line.{LineView, line_past}
use Rattle.rds_host.specs.Telling.{AreOrdersTold}

-- at least so many streams were shut
abbrev pub HasShut : (cuts : ℕ) → List Entry → Type 0
HasShut cuts past = cuts ≤ shuts past

-- so many were; or the journal opened all streams with these numbers, and none is open any more
abbrev pub AreCutsDone : (cuts : ℕ) → (streams : List ℕ) → List Entry → Type 0
AreCutsDone cuts streams past = HasShut cuts past ⊎ ((opens past ≡ streams) × (open_stream past ≡ None))

module _ {E M : Type 0} where
  -- the cuts that the line got were done, or it has used up the streams that it was given
  abbrev pub HasCut : LineView E M → Type 0
  HasCut line = AreCutsDone (cuts_among (bare_items line.orders.got)) (numbers line.channel.streams.list) (line_past line)

module _ {R : Type 0} where
  -- how many cuts were put on the route at a place of these, if one stands there
  abbrev pub cuts_on : List (Lane R) → (place : ℕ) → ℕ
  cuts_on [] place = 0
  cuts_on (lane ∷ routes) zero = cuts_among lane.pass.put
  cuts_on (lane ∷ routes) (suc place) = cuts_on routes place

  -- how many all slots of a host have put on their routes at this place
  abbrev pub cuts_put : (place : ℕ) → List (Holding R) → ℕ
  cuts_put place slots = total (λ h. cuts_on h.routes place) slots

module _ {R E M : Type 0} where
  -- The cuts that all slots together asked a line for were done, or it has used up the streams that it was given, if the line was told of
  -- all that the slots have put, and then found its queue empty.
  abbrev pub AreCutsOfSlots : List (Holding R) → List (LineView E M) → Type 0
  AreCutsOfSlots slots lines = (place : ℕ) (line : LineView E M) → slice_get lines place ≡ Some line →
      AllGot line.orders → AreOrdersTold slots place line → AreCutsDone (cuts_put place slots) (numbers line.channel.streams.list) (line_past line)
