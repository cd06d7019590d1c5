-- What a line does with its journal, at its host's port table and at its meter, one act after the other. It looks up no port and
-- makes no step on the meter's words but in these acts, and each of them has looks and steps of its own. Source: this project's own.
use Rattle.std.specs.Prelude.{◌≡◌, ℕ, Bool, Option, Some, None, List, [], ◌∷◌, length}
use Rattle.rds_wire.specs.declared.frame.Frame.{Frame}
use Rattle.rds_model.specs.declared.entry.Entry.{Entry}
use Rattle.rds_model.specs.declared.entry.Entry.TheVariants.{Accept, Bad, Cancel, Open, Pull, Read, Shut}
use Rattle.rds_model.specs.declared.entry.Outcome.TheVariants as outcome
use Rattle.rds_bindtab.specs.declared.view.View.{View}
use Rattle.rds_bindtab.specs.Seats.{PortSeat, after_look, joined, knowing}
use Rattle.rds_meter.specs.Seats.{MeterSeat}
use Rattle.rds_line_parts.specs.Delivery.{IsDelivery}
use Rattle.rds_line_parts.specs.Own.{Own, IsRefresh}
use Rattle.rds_line_parts.specs.Relief.{IsRelief}
use Rattle.rds_line.specs.Line.{LineView, line_past}

-- what acts change: the journal; the seats at the port table and at the meter; and the host's own map as it was read last
pub record Acted : Type 0 where
  pub past : List Entry
  pub ports : PortSeat
  pub words : MeterSeat
  pub own : Own

-- what the acts of a line have made of it
abbrev pub acted : {E M : Type 0} → LineView E M → Acted
acted v = record { past = line_past v; ports = v.ports; words = v.words; own = v.own }

-- nothing was done yet
pub record IsUntouched (a : Acted) : Type 0 where
  pub past : a.past ≡ []
  pub looks : a.ports.view.steps ≡ []
  pub steps : a.words.view.steps ≡ []
  pub checks : a.words.view.checks ≡ []
  pub unread : a.own.change ≡ None

-- the entry is no datagram that went to a slot, and none for whose port there was no socket
abbrev pub AsksNoPort : Entry → Type 0
AsksNoPort (Accept slot sport dport payload) = Unit {0}
AsksNoPort (Cancel slot target) = Unit {0}
AsksNoPort (Open stream) = Unit {0}
AsksNoPort (Pull stream frame) = Unit {0}
AsksNoPort (Read stream frame (outcome.Slot slot)) = ⊥
AsksNoPort (Read stream frame outcome.NoSocket) = ⊥
AsksNoPort (Read stream frame other) = Unit {0}
AsksNoPort (Shut stream) = Unit {0}
AsksNoPort (Bad stream header cause) = Unit {0}

-- the seat after one look at the port, which found this
abbrev pub looked_up : PortSeat → ℕ → Option ℕ → PortSeat
looked_up seat port found = knowing seat (after_look seat.view port found)

-- what may have come of the line by its acts since it was as `a` says
pub data Acts (a : Acted) : Acted → Type 0 where
  -- nothing was done
  nothing : Acts a a
  -- an entry for which no port is asked
  enters : {b : Acted} (e : Entry) → AsksNoPort e → Acts a b → Acts a (record b { past = e ∷ b.past })
  -- the seat at the port table was told something, and no step came with it
  hears : {b : Acted} (note : View) → note.steps ≡ [] → Acts a b →
      Acts a (record b { ports = knowing b.ports (joined b.ports.view note) })
  -- the host's own map was looked at: the change number was loaded, and all words of the map where it isn't the one found before
  reads : {b : Acted} {words : MeterSeat} {own : Own} {all : Bool} → IsRefresh b.own own b.words words all → Acts a b →
      Acts a (record b { words = words; own = own })
  -- freed bytes were added to the freed words of their slots
  frees : {b : Acted} {words : MeterSeat} {bytes : List ℕ} → IsRelief bytes b.words words → Acts a b →
      Acts a (record b { words = words })
  -- a port was looked up, and no entry came of it, as where memory then runs out
  looks : {b : Acted} (port : ℕ) (found : Option ℕ) → Acts a b → Acts a (record b { ports = looked_up b.ports port found })
  -- the port of a datagram was looked up, and no socket holds it
  misses : {b : Acted} (stream : ℕ) (frame : Frame) → Acts a b →
      Acts a (record b { past = Read stream frame outcome.NoSocket ∷ b.past; ports = looked_up b.ports frame.header.dport None })
  -- The port of a datagram was looked up, and the slot that was found got it. Its bytes were counted there with one check. Where
  -- that had to it raised the bit of the port, and a second look followed, which lowered the bit where it had to. Each raise and
  -- each lowering was followed by a count of the change.
  delivers : {b : Acted} {ports : PortSeat} {words : MeterSeat} (stream slot : ℕ) (frame : Frame) →
      IsDelivery slot frame.header.dport (length frame.payload) b.words words (looked_up b.ports frame.header.dport (Some slot)) ports →
      Acts a b → Acts a (record b { past = Read stream frame (outcome.Slot slot) ∷ b.past; ports = ports; words = words })

-- all that the line has come to came of such acts
abbrev pub HasOnlyActed : Acted → Type 0
HasOnlyActed b = (a : Acted) × IsUntouched a × Acts a b
