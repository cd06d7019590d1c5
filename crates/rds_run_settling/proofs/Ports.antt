-- The loops that tell lines of the ports of sockets.
use Rattle.std.proofs.Common.{◌≡◌, inl, inr, ℕ, ◌+◌, ◌<◌, List, [], ◌∷◌, Some, None, length, slice_get, slice_set, refl, sym, ap, subst, ◌∙◌, arith}
use Rattle.std.proofs.lemmas.Option.{same_Some}
use Rattle.std.proofs.lemmas.Bool.{cases_eq}
use Rattle.std.proofs.lemmas.List.{append-nil}
use Rattle.rds_bindtab.specs.Seats.{PortSeat, joined, knowing, note_of, telling_of}
use Rattle.rds_model.specs.declared.order.Datagram.{Datagram}
use Rattle.rds_meter.specs.Grounds.{seats_of}
use Rattle.rds_mail.specs.Passes.{Putter}
use Rattle.rds_fmap.specs.Readers.{ReaderView, WriterView}
use Rattle.rds_socket.specs.Holding.{Open}
use Rattle.rds_line.specs.Line.{LineView}
use Rattle.rds_line.specs.Stays.{AreSameBoxes}
use Rattle.rds_host.specs.Keeping.{LineKeeps, LinesKeep}
use Rattle.rds_host.specs.Telling.{IsPortTold}
use Rattle.rds_run_callers.specs.Places.{Bound, Ended, Place, Spare, Vacant, bind_note, holding_of}
use Rattle.rds_run_settling.specs.Steps.{AreAtTable, ArePortsToldTo, after_port}
use Rattle.rds_run_settling.specs.Tied.{ArePortsTold, AreTied, LineLearnsPorts, LinesLearnPorts}
use Rattle.rds_run_settling.proofs.Listening.{below_at, held_at, set_at, set_length, some_at}
use Rattle.rds_run_settling.proofs.Told.{at_append, at_end, stood_at}
use Rattle.rds_run_settling.proofs.Tying.{boxes_same}

-- a seat that was told more was told of what it was told of, and of the last note
port_more : (seat holder : PortSeat) (o : Open ReaderView) → IsPortTold seat holder → IsPortTold (knowing seat (joined seat.view (note_of o.own.ports.view))) holder
port_more seat holder o has = (has.0, has.1, at_append seat.view.told (telling_of o.own.ports.view ∷ []) has.0 has.1 has.2, has.3)

port_last : (seat : PortSeat) (o : Open ReaderView) → IsPortTold (knowing seat (joined seat.view (note_of o.own.ports.view))) o.own.ports
port_last seat o = (length seat.view.told, telling_of o.own.ports.view, at_end seat.view.told (telling_of o.own.ports.view), refl)

module _ {E : Type 0} where
  still_told : (p : Place) (line : LineView E WriterView) (holder : PortSeat) → IsPortTold line.ports holder → IsPortTold (after_port p line).ports holder
  still_told (Vacant h) line holder has = has
  still_told (Bound o got) line holder has = port_more line.ports holder o has
  still_told (Ended port h got) line holder has = has
  still_told (Spare h) line holder has = has

  -- the port at the next slot was told too
  pub ports_told_next : (upto : ℕ) (places : List Place) (p : Place) (line : LineView E WriterView) → slice_get places upto ≡ Some p →
      ArePortsToldTo upto places line → ArePortsToldTo (upto + 1) places (after_port p line)
  ports_told_next upto places p line here told slot o got below at = elim (cases_eq slot upto) [
    | inl same ↦
        let is : p ≡ Bound o got = same_Some p (Bound o got) (sym here ∙ subst (λ (n : ℕ). slice_get places n ≡ Some (Bound o got)) same at) in
        subst (λ (q : Place). IsPortTold (after_port q line).ports o.own.ports) (sym is) (port_last line.ports o)
    | inr other ↦ still_told p line o.own.ports (told slot o got (omega (arith, below, other)) at)
  ]

  pub none_told_of : (places : List Place) (line : LineView E WriterView) → ArePortsToldTo 0 places line
  none_told_of places line slot o got below at = absurd (omega (arith, below))

  pub learns_none : (line : LineView E WriterView) → LineLearnsPorts line line
  learns_none line = (refl, refl, refl)

  pub learns_through : (a b c : LineView E WriterView) → LineLearnsPorts a b → LineLearnsPorts b c → LineLearnsPorts a c
  learns_through a b c one two = (two.0 ∙ ap (λ (l : LineView E WriterView). record l { ports = c.ports }) one.0, two.1 ∙ one.1, two.2 ∙ one.2)

  learns_port : (p : Place) (line : LineView E WriterView) → LineLearnsPorts line (after_port p line)
  learns_port (Vacant h) line = (refl, refl, refl)
  learns_port (Bound o got) line = (refl, refl, append-nil line.ports.view.steps)
  learns_port (Ended port h got) line = (refl, refl, refl)
  learns_port (Spare h) line = (refl, refl, refl)

  pub learns_next : (p : Place) (first line : LineView E WriterView) → LineLearnsPorts first line → LineLearnsPorts first (after_port p line)
  learns_next p first line learns = learns_through first line (after_port p line) learns (learns_port p line)

  pub learn_same : (lines : List (LineView E WriterView)) → LinesLearnPorts lines lines
  learn_same lines = record {
    count = refl;
    each = λ place line after stood stands. subst (LineLearnsPorts line) (same_Some line after (sym stood ∙ stands)) (learns_none line);
  }

  -- one line more was told
  pub learn_set : (first lines : List (LineView E WriterView)) (i : ℕ) (line after : LineView E WriterView) → slice_get lines i ≡ Some line →
      LinesLearnPorts first lines → LineLearnsPorts line after → LinesLearnPorts first (slice_set lines i after)
  learn_set first lines i line after at learn learns = record {
    count = set_length lines i after ∙ learn.count;
    each = λ place old new stood stands. elim (set_at lines i place after new stands) [
      | inl here ↦
          let old_at = subst (λ (n : ℕ). slice_get first n ≡ Some old) here.0 stood in
          subst (LineLearnsPorts old) (sym here.1) (learns_through old line after (learn.each i old line old_at at) learns)
      | inr there ↦ learn.each place old new stood there.1
    ];
  }

  -- the slots of a host are at the port table of each of its lines
  pub at_table : (places : List Place) (first lines : List (LineView E WriterView)) (place : ℕ) (line : LineView E WriterView) → AreTied places first →
      LinesLearnPorts first lines → slice_get lines place ≡ Some line → AreAtTable places line
  at_table places first lines place line tied learn at slot p at_p =
      let old = stood_at first lines place line learn.count at in
      tied.host.ports slot place (holding_of p) old.0 (held_at places slot p at_p) old.1 ∙ sym (learn.each place old.0 line old.1 at).1

  -- one slot's seat is
  pub table_at : (places : List Place) (slot : ℕ) (first line : LineView E WriterView) → AreAtTable places first → LineLearnsPorts first line →
      slot < length places → (p : Place) × (slice_get places slot ≡ Some p) × ((holding_of p).ports.table ≡ line.ports.table)
  table_at places slot first line are learns below =
      let p = some_at places slot below in (p.0, p.1, are slot p.0 p.1 ∙ sym learns.1)

  -- the next line was told too
  pub lines_ports_next : (places : List Place) (lines : List (LineView E WriterView)) (upto : ℕ) (after : LineView E WriterView) →
      ArePortsToldTo (length places) places after →
      ((place : ℕ) (line : LineView E WriterView) → place < upto → slice_get lines place ≡ Some line → ArePortsToldTo (length places) places line) →
      (place : ℕ) (line : LineView E WriterView) → place < upto + 1 → slice_get (slice_set lines upto after) place ≡ Some line →
      ArePortsToldTo (length places) places line
  lines_ports_next places lines upto after told earlier place line below at = elim (set_at lines upto place after line at) [
    | inl here ↦ subst (λ (l : LineView E WriterView). ArePortsToldTo (length places) places l) (sym here.1) told
    | inr there ↦ let other = there.0 in earlier place line (omega (arith, below, other)) there.1
  ]

  -- so each was
  pub all_ports_told : (places : List Place) (lines : List (LineView E WriterView)) →
      ((place : ℕ) (line : LineView E WriterView) → slice_get lines place ≡ Some line → ArePortsToldTo (length places) places line) → ArePortsTold places lines
  all_ports_told places lines each slot place o got line at at_line = each place line at_line slot o got (below_at places slot (Bound o got) at) at

  -- a line that learned ports is kept
  keeps_learned : (line after : LineView E WriterView) → LineLearnsPorts line after → LineKeeps line after
  keeps_learned line after learns = record {
    peer = ap (λ (l : LineView E WriterView). l.channel.conn.peer) learns.0;
    mail = ap (λ (l : LineView E WriterView). l.orders.mail) learns.0;
    joined = ap (λ (l : LineView E WriterView). l.orders.joined) learns.0;
    boxes = subst (λ (b : List (Putter Datagram)). AreSameBoxes line.boxes b) (sym (ap (λ (l : LineView E WriterView). l.boxes) learns.0)) (boxes_same line.boxes);
    ports = learns.1;
    words = ap (λ (l : LineView E WriterView). l.words.table) learns.0;
    seats = ap (λ (l : LineView E WriterView). seats_of l.words.view) learns.0;
    pair = ap (λ (l : LineView E WriterView). l.map.pair) learns.0;
  }

  pub lines_learned : (old new : List (LineView E WriterView)) → LinesLearnPorts old new → LinesKeep old new
  lines_learned old new learn = record {
    count = learn.count;
    each = λ place line after stood stands. keeps_learned line after (learn.each place line after stood stands);
  }

-- the note of a bound socket's port is of its table
pub note_table : (p : Place) (note : PortSeat) → bind_note p ≡ Some note → note.table ≡ (holding_of p).ports.table
note_table (Vacant h) note is = absurd (cc)
note_table (Bound o got) note is =
    ap (λ (n : PortSeat). n.table) (sym (same_Some (knowing o.own.ports (note_of o.own.ports.view)) note is))
note_table (Ended port h got) note is = absurd (cc)
note_table (Spare h) note is = absurd (cc)

-- a note has made no steps
pub note_steps : (p : Place) (note : PortSeat) → bind_note p ≡ Some note → note.view.steps ≡ []
note_steps (Vacant h) note is = absurd (cc)
note_steps (Bound o got) note is =
    ap (λ (n : PortSeat). n.view.steps) (sym (same_Some (knowing o.own.ports (note_of o.own.ports.view)) note is))
note_steps (Ended port h got) note is = absurd (cc)
note_steps (Spare h) note is = absurd (cc)

module _ {E : Type 0} where
  -- a line that heard the note of a place is the one after the port there
  pub heard_note : (p : Place) (note : PortSeat) (line : LineView E WriterView) → bind_note p ≡ Some note →
      record line { ports = knowing line.ports (joined line.ports.view note.view) } ≡ after_port p line
  heard_note (Vacant h) note line is = absurd (cc)
  heard_note (Bound o got) note line is =
      ap (λ (n : PortSeat). record line { ports = knowing line.ports (joined line.ports.view n.view) })
      (sym (same_Some (knowing o.own.ports (note_of o.own.ports.view)) note is))
  heard_note (Ended port h got) note line is = absurd (cc)
  heard_note (Spare h) note line is = absurd (cc)

  -- and where there is no note, the line is
  pub heard_none : (p : Place) (line : LineView E WriterView) → bind_note p ≡ None → line ≡ after_port p line
  heard_none (Vacant h) line is = refl
  heard_none (Bound o got) line is = absurd (cc)
  heard_none (Ended port h got) line is = refl
  heard_none (Spare h) line is = refl
