-- A map with a port was pulled only where more was delivered to a slot than the receive buffer that its bind asks for.
use Rattle.std.proofs.Common.{◌≡◌, ℕ, suc, ◌+◌, ◌<◌, List, [], ◌∷◌, All, Some, length, map, option_map, slice_get, refl, sym, ap, subst, ◌∙◌, arith}
use Rattle.std.proofs.lemmas.List.{length-map}
use Rattle.std.proofs.lemmas.Option.{slice_get-map, slice_get_within}
use Rattle.rds_seats.specs.Views.{total}
use Rattle.rds_meter.specs.Shared.{HasStored}
use Rattle.rds_model.specs.Deliveries.{put_bytes}
use Rattle.rds_fmap.specs.Readers.{ReaderView, WriterView}
use Rattle.rds_text.specs.FinalState.{FinalJournal}
use Rattle.rds_text.specs.Hosts.{address_of}
use Rattle.rds_run_rounds.specs.Grid.{peer_at}
use Rattle.rds_script.specs.declared.script.Placed.{Placed}
use Rattle.rds_socket.specs.Holding.{Holding}
use Rattle.rds_line.specs.Line.{LineView, line_past}
use Rattle.rds_line.specs.Seats.{HasPulled}
use Rattle.rds_host_end.specs.Grounded.{AreMapsGrounded, IsGrounded}
use Rattle.rds_host_end.specs.Sides.{line_side}
use Rattle.rds_run_callers.specs.Ends.{AreEndsOf}
use Rattle.rds_run_callers.specs.Places.{Place, holding_of, spared}
use Rattle.rds_run_settling.specs.Tied.{PlacesHear, holdings}
use Rattle.rds_run_threads.specs.Outcome.{BindsSlot, IsFilled}
use Rattle.rds_run_threads.specs.Settled.{HasDoneSpared}
use Rattle.rds_run_threads.proofs.At.{all_from, at_map, held_at, spared_holds, stood_at}
use Rattle.rds_run_threads.proofs.Cutting.{cuts_of_done}
use Rattle.rds_run_threads.proofs.Limits.{limits_of_done}

-- numbers of mapped values, added up
total_sides : {E : Type 0} (slot : ℕ) (lines : List (LineView E WriterView)) → total (λ (s : FinalJournal). put_bytes slot s.past) (map line_side lines) ≡ total (λ (l : LineView E WriterView). put_bytes slot (line_past l)) lines
total_sides slot [] = refl
total_sides slot (line ∷ lines) = ap (λ (n : ℕ). put_bytes slot (line_past line) + n) (total_sides slot lines)

module _ {E : Type 0} where
  -- what the ends of slots have stored the slots had stored before they ended
  pub ended_grounded : (places : List Place) (closed : List (Holding ReaderView)) (lines : List (LineView E WriterView)) → AreEndsOf places closed →
      AreMapsGrounded closed lines → AreMapsGrounded (holdings places) lines
  ended_grounded places closed lines ends grounded some place line at port small pulled =
      let count = length-map places holding_of in
      let same = ends.count in
      let g = grounded (omega (arith, some, count, same)) place line at port small pulled in
      let p = stood_at places closed g.owner g.held ends.count g.owned in
      record {
        slot = g.slot;
        place = g.place;
        line = g.line;
        stands = g.stands;
        delivered = g.delivered;
        limit = g.limit;
        owner = g.owner;
        held = holding_of p.0;
        owned = held_at places g.owner p.0 p.1;
        stored = (ends.each g.owner p.0 g.held p.1 g.owned).stored g.slot g.limit g.stored;
        above = g.above;
      }

  -- and before they were told
  heard_grounded : (places told : List Place) (lines : List (LineView E WriterView)) → PlacesHear places told → AreMapsGrounded (holdings told) lines →
      AreMapsGrounded (holdings places) lines
  heard_grounded places told lines hear grounded some place line at port small pulled =
      let one = length-map places holding_of in
      let two = length-map told holding_of in
      let same = hear.count in
      let g = grounded (omega (arith, some, one, two, same)) place line at port small pulled in
      let q = at_map holding_of told g.owner g.held g.owned in
      let p = stood_at places told g.owner q.0 hear.count q.1 in
      let heard = hear.each g.owner p.0 q.0 p.1 q.1 in
      let stored = subst (λ (h : Holding ReaderView). HasStored g.slot g.limit h.words.seat.view) q.2 g.stored in
      record {
        slot = g.slot;
        place = g.place;
        line = g.line;
        stands = g.stands;
        delivered = g.delivered;
        limit = g.limit;
        owner = g.owner;
        held = holding_of p.0;
        owned = held_at places g.owner p.0 p.1;
        stored = subst (λ (h : Holding ReaderView). HasStored g.slot g.limit h.words.seat.view) heard.1 stored;
        above = g.above;
      }

  pub all_grounded : (places told : List Place) (closed : List (Holding ReaderView)) (lines : List (LineView E WriterView)) → PlacesHear places told → AreEndsOf told closed →
      AreMapsGrounded closed lines → AreMapsGrounded (holdings places) lines
  all_grounded places told closed lines hear ends grounded = heard_grounded places told lines hear (ended_grounded told closed lines ends grounded)

  pub all_filled : (hosts host : ℕ) (commands : List Placed) (places : List Place) (lines : List (LineView E WriterView)) →
      ((place : ℕ) (line : LineView E WriterView) → slice_get lines place ≡ Some line → (line.channel.conn.peer ≡ address_of (peer_at host place)) × (suc place < hosts)) →
      (did : HasDoneSpared hosts host commands places lines) → AreMapsGrounded (holdings places) lines →
      All (λ (side : FinalJournal). (port : ℕ) → port < 65536 → HasPulled port side.past → IsFilled host commands did.did.done.first did.last (map line_side lines) port)
      (map line_side lines)
  all_filled hosts host commands places lines peers did grounded =
      all_from (λ (side : FinalJournal). (port : ℕ) → port < 65536 → HasPulled port side.past → IsFilled host commands did.did.done.first did.last (map line_side lines) port)
      (map line_side lines)
      (λ place side at_side port small pulled.
      let line = at_map line_side lines place side at_side in
      let way = cuts_of_done hosts host place commands did.last did.did.done (peers place line.0 line.1).1 in
      let within = slice_get_within did.last way.slot way.p way.at in
      let one = length-map places holding_of in
      let two = ap length did.left in
      let three = length-map did.last spared in
      let g = grounded (omega (arith, within, one, two, three)) place line.0 line.1 port small (subst (λ (s : FinalJournal). HasPulled port s.past) line.2 pulled) in
      record {
        slot = g.slot;
        place = g.place;
        side = line_side g.line;
        stands = slice_get-map line_side lines g.place ∙ ap (option_map line_side) g.stands;
        delivered = g.delivered;
        rcvbuf = g.limit;
        asked = asked port g;
        above = subst (λ (n : ℕ). g.limit < n) (sym (total_sides g.slot lines)) g.above;
      })
    where
      asked : (port : ℕ) (g : IsGrounded (holdings places) lines port) → BindsSlot host g.slot g.limit commands did.did.done.first did.last
      asked port g =
          let p = at_map holding_of places g.owner g.held g.owned in
          let q = at_map spared did.last g.owner p.0 (subst (λ (l : List Place). slice_get l g.owner ≡ Some p.0) did.left p.1) in
          let held : g.held ≡ holding_of q.0 = p.2 ∙ (ap holding_of q.2 ∙ spared_holds q.0) in
          limits_of_done hosts host commands did.last did.did.done g.owner q.0 q.1 g.slot g.limit
          (subst (λ (h : Holding ReaderView). HasStored g.slot g.limit h.words.seat.view) held g.stored)
