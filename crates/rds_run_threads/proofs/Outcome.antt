-- What a host that has ended did of a script's commands.
use Rattle.std.proofs.Common.{◌≡◌, ◌⊎◌, ◌<◌, ◌≤◌, ℕ, suc, inl, inr, ⊎_elim, arith, List, [], ◌∷◌, None, Some, Option, length, map, option_map, slice_get, refl, sym, ap, subst, ◌∙◌}
use Rattle.std.proofs.lemmas.List.{length-map}
use Rattle.std.proofs.lemmas.List.Elements.{All-map, All-weaker}
use Rattle.std.proofs.lemmas.Option.{slice_get-map, slice_get_within}
use Rattle.rds_fmap.specs.Readers.{ReaderView, WriterView}
use Rattle.rds_socket_parts.specs.Lanes.{IsLaneAt, Lane}
use Rattle.rds_text.specs.FinalState.{FinalJournal, FinalSocket}
use Rattle.rds_text.specs.FinalViews.{socket_view}
use Rattle.rds_text.specs.declared.final_state.Kept.{Kept}
use Rattle.rds_script.specs.declared.script.Placed.{Placed}
use Rattle.rds_socket.specs.Holding.{Holding}
use Rattle.rds_bindtab.specs.Seats.{PortSeat, telling_of}
use Rattle.rds_line.specs.Line.{LineView, line_past}
use Rattle.rds_line.specs.Seats.{WasAlwaysTold}
use Rattle.rds_run_hosts.specs.Obeyed.{after_binds}
use Rattle.rds_run_hosts.specs.Parties.{HasLed}
use Rattle.rds_text.specs.Hosts.{address_of}
use Rattle.rds_run_rounds.specs.Grid.{peer_at}
use Rattle.rds_host_end.specs.Cuts.{AreCutsDone, AreCutsOfSlots, HasShut}
use Rattle.rds_host_end.specs.Grounded.{AreMapsGrounded}
use Rattle.rds_host_end.specs.Joined.{AreJoined, AreLooksOfJournals, orders_of}
use Rattle.rds_host_end.specs.Sides.{line_side}
use Rattle.rds_host_end.specs.Shown.{HasLookedAt}
use Rattle.rds_model.specs.Past.{open_stream}
use Rattle.rds_model.specs.Sums.{maps}
use Rattle.rds_line_channel.specs.Streams.{numbers}
use Rattle.rds_run_callers.specs.Ends.{AreEndsOf, AreLeft, IsLeft, UnreadFits, kept_name, used_name}
use Rattle.rds_run_callers.specs.Places.{Bound, Ended, Place, Spare, Vacant, holding_of, somes, spared, with_holding}
use Rattle.rds_run_threads.specs.Outcome.{HandedOutAt, IsAlwaysFound, IsOutcome, cuts_to, socket_name}
use Rattle.rds_run_threads.specs.Reliable.{AllWentToSockets}
use Rattle.rds_run_rounds.specs.Quiet.{AreQuiet}
use Rattle.rds_run_threads.specs.Settled.{AreAllCut, AreAllSent, AreKeptOf, HasDoneSpared, HaveAllFound, HaveAllGone, HaveAllLooked}
use Rattle.rds_run_settling.specs.Tied.{AreLinesTold, PlacesHear, holdings}
use Rattle.rds_run_threads.proofs.At.{all_from, at_map, held_at, one_at, spared_holds, stood_at}
use Rattle.rds_run_threads.proofs.Cutting.{cuts_of_done}
use Rattle.rds_run_threads.proofs.CutsAsked.{asked_done}
use Rattle.rds_run_threads.proofs.CutsTogether.{as_many}
use Rattle.rds_run_threads.proofs.KeptPorts.{seat_kept}
use Rattle.rds_run_threads.proofs.Filled.{all_filled}

-- the names of slots stay where they are given up
name_spared : (p : Place) → used_name (spared p) ≡ used_name p
name_spared (Vacant h) = refl
name_spared (Bound o got) = refl
name_spared (Ended port h got) = refl
name_spared (Spare h) = refl

pub names_spared : (places : List Place) → somes (map used_name (map spared places)) ≡ somes (map used_name places)
names_spared places = ap (λ (l : List (Option (ℕ × ℕ))). somes l) (go places)
  where
    go : (ps : List Place) → map used_name (map spared ps) ≡ map used_name ps
    go [] = refl
    go (p ∷ ps) = (λ i. name_spared p i ∷ map used_name (map spared ps)) ∙ ap (λ (l : List (Option (ℕ × ℕ))). used_name p ∷ l) (go ps)

-- what names say of sockets
pub names_of : (kept : List Kept) → map socket_name (map socket_view kept) ≡ map kept_name kept
names_of [] = refl
names_of (k ∷ kept) = ap (λ (l : List (ℕ × ℕ)). kept_name k ∷ l) (names_of kept)

-- a slot whose mailbox was told, and which has ended then, has the routes that it had
routes_kept : (places told : List Place) (closed : List (Holding ReaderView)) → PlacesHear places told → AreEndsOf told closed →
    (slot : ℕ) (h : Holding ReaderView) → slice_get closed slot ≡ Some h → (p : Place) × (slice_get places slot ≡ Some p) × (h.routes ≡ (holding_of p).routes)
routes_kept places told closed hear ends slot h at =
    let q = stood_at told closed slot h ends.count at in
    let p = stood_at places told slot q.0 hear.count q.1 in
    (p.0, p.1, (ends.each slot q.0 h q.1 at).routes ∙ ap (λ (x : Holding ReaderView). x.routes) (hear.each slot p.0 q.0 p.1 q.1).1)

module _ {E : Type 0} where
  -- what the slots put stands in the journals
  pub all_sent : (places told : List Place) (closed : List (Holding ReaderView)) (lines : List (LineView E WriterView)) → PlacesHear places told → AreEndsOf told closed →
      AreJoined closed lines → AreLinesTold (holdings places) lines → AreQuiet lines → AreAllSent places lines
  all_sent places told closed lines hear ends joined all quiet = record {
    each = λ slot place p lane line at at_lane at_line.
        let q = stood_at told places slot p (sym hear.count) at in
        let heard = hear.each slot p q.0 at q.1 in
        let h = stood_at closed told slot q.0 (sym ends.count) q.1 in
        let routes = (ends.each slot q.0 h.0 q.1 h.1).routes ∙ ap (λ (x : Holding ReaderView). x.routes) heard.1 in
        joined.all_taken slot place h.0 lane line h.1 (subst (λ (l : List (Lane ReaderView)). IsLaneAt l place lane) (sym routes) at_lane) at_line (quiet place line at_line)
        (λ other k way at_k at_way.
        let was = routes_kept places told closed hear ends other k at_k in
        all place line at_line other (holding_of was.0) way (held_at places other was.0 was.1)
        (subst (λ (l : List (Lane ReaderView)). IsLaneAt l place way) was.2 at_way));
    none_else = λ some slot place line at_line few.
        let count = hear.count in
        let also = ends.count in
        joined.known_slots (omega (arith, some, count, also)) slot place line at_line (omega (arith, few, count, also));
  }

module _ {E : Type 0} where
  -- what the slots saw stands in the journals
  pub all_looked : (places told : List Place) (closed : List (Holding ReaderView)) (lines : List (LineView E WriterView)) → PlacesHear places told → AreEndsOf told closed →
      AreLooksOfJournals closed lines → HaveAllLooked places lines
  all_looked places told closed lines hear ends looks slot place p lane line at at_lane at_line =
      let q = stood_at told places slot p (sym hear.count) at in
      let heard = hear.each slot p q.0 at q.1 in
      let h = stood_at closed told slot q.0 (sym ends.count) q.1 in
      let routes = (ends.each slot q.0 h.0 q.1 h.1).routes ∙ ap (λ (x : Holding ReaderView). x.routes) heard.1 in
      looks slot place h.0 lane line h.1 (subst (λ (l : List (Lane ReaderView)). IsLaneAt l place lane) (sym routes) at_lane) at_line

module _ {E : Type 0} where
  -- the cuts that all slots together asked for were done
  pub all_cut : (places told : List Place) (closed : List (Holding ReaderView)) (lines : List (LineView E WriterView)) → PlacesHear places told → AreEndsOf told closed →
      AreCutsOfSlots closed lines → AreLinesTold (holdings places) lines → AreQuiet lines → AreAllCut places lines
  all_cut places told closed lines hear ends cut all quiet place line at_line =
      let count : length closed ≡ length (holdings places) = ends.count ∙ (hear.count ∙ sym (length-map places holding_of)) in
      let same = as_many place (holdings places) closed count (λ slot h k at_h at_k.
      let was = routes_kept places told closed hear ends slot k at_k in
      was.2 ∙ ap (λ (x : Holding ReaderView). x.routes) (one_at (holdings places) slot (holding_of was.0) h (held_at places slot was.0 was.1) at_h)) in
      subst (λ (n : ℕ). AreCutsDone n (numbers line.channel.streams.list) (line_past line)) same
      (cut place line at_line (quiet place line at_line)
      (λ other k way at_k at_way.
      let was = routes_kept places told closed hear ends other k at_k in
      all place line at_line other (holding_of was.0) way (held_at places other was.0 was.1)
      (subst (λ (l : List (Lane ReaderView)). IsLaneAt l place way) was.2 at_way)))

-- a place that was told has the name and hands out what it had
name_heard : (p : Place) (k : Holding ReaderView) → k.words.slot ≡ (holding_of p).words.slot → used_name (with_holding p k) ≡ used_name p
name_heard (Vacant h) k same = refl
name_heard (Bound o got) k same = ap (λ (s : ℕ). Some (s, o.port)) same
name_heard (Ended port h got) k same = ap (λ (s : ℕ). Some (s, port)) same
name_heard (Spare h) k same = refl

names_heard : (places told : List Place) → PlacesHear places told → map used_name told ≡ map used_name places
names_heard [] [] hear = refl
names_heard [] (q ∷ told) hear = absurd (let count = hear.count in omega (arith, count))
names_heard (p ∷ places) [] hear = absurd (let count = hear.count in omega (arith, count))
names_heard (p ∷ places) (q ∷ told) hear =
    let heard = hear.each 0 p q refl refl in
    let name : used_name q ≡ used_name p = ap used_name heard.0 ∙ name_heard p (holding_of q) (ap (λ (x : Holding ReaderView). x.words.slot) heard.1) in
    let count = hear.count in
    (λ i. name i ∷ map used_name told)
    ∙ ap (λ (l : List (Option (ℕ × ℕ))). used_name p ∷ l)
    (names_heard places told (record { count = omega (arith, count); each = λ slot x y at_x at_y. hear.each (suc slot) x y at_x at_y }))

hands_as : (p : Place) (h : Holding ReaderView) (k : Kept) → UnreadFits (with_holding p h) k → HandedOutAt p (socket_view k)
hands_as (Vacant v) h k fits = absurd fits
hands_as (Bound o got) h k fits = fits
hands_as (Ended port e got) h k fits = fits
hands_as (Spare s) h k fits = absurd fits

pub kept_of : (places told : List Place) (closed : List (Holding ReaderView)) (kept : List Kept) → PlacesHear places told → AreLeft told closed kept → AreKeptOf places kept
kept_of places told closed kept hear left = record {
  names = left.names ∙ ap (λ (l : List (Option (ℕ × ℕ))). somes l) (names_heard places told hear);
  handed = All-weaker (IsLeft told closed) (λ (k : Kept). (p : Place) × (slice_get places k.slot ≡ Some p) × HandedOutAt p (socket_view k)) handed kept left.each;
}
  where
    handed : (k : Kept) → IsLeft told closed k → (p : Place) × (slice_get places k.slot ≡ Some p) × HandedOutAt p (socket_view k)
    handed k is =
        let p = stood_at places told k.slot is.0 hear.count is.2 in
        let heard = hear.each k.slot p.0 is.0 p.1 is.2 in
        (p.0, p.1, hands_as p.0 (holding_of is.0) k (subst (λ (x : Place). UnreadFits x k) heard.0 is.4.unread))

-- giving up slots that no socket had changes nothing of that
hands_spared : (p : Place) (s : FinalSocket) → HandedOutAt (spared p) s → HandedOutAt p s
hands_spared (Vacant h) s is = absurd is
hands_spared (Bound o got) s is = is
hands_spared (Ended port h got) s is = is
hands_spared (Spare h) s is = absurd is

module _ {E : Type 0} where
  pub outcome_of : (hosts host : ℕ) (commands : List Placed) (places : List Place) (lines : List (LineView E WriterView)) (kept : List Kept) →
      ((place : ℕ) (line : LineView E WriterView) → slice_get lines place ≡ Some line → (line.channel.conn.peer ≡ address_of (peer_at host place)) × (suc place < hosts)) →
      HasDoneSpared hosts host commands places lines → AreAllSent places lines → HaveAllLooked places lines → AreAllCut places lines →
      AreMapsGrounded (holdings places) lines → HaveAllGone lines (map socket_view kept) → HaveAllFound places lines → AreKeptOf places kept →
      IsOutcome hosts host commands (map line_side lines) (map socket_view kept)
  outcome_of hosts host commands places lines kept peers did sent looked cut grounded gone found of_kept = record {
    last = did.last;
    done = did.did.done;
    sent = λ slot place p lane side at at_lane at_side.
        let line = at_map line_side lines place side at_side in
        ap (λ (s : FinalJournal). orders_of slot s.past) line.2
        ∙ sent.each slot place (spared p) lane line.0 (here slot p at)
        (subst (λ (h : Holding ReaderView). IsLaneAt h.routes place lane) (sym (spared_holds p)) at_lane) line.1;
    none_else = all_from (λ (side : FinalJournal). (slot : ℕ) → length did.last ≤ slot → orders_of slot side.past ≡ []) (map line_side lines)
        (λ place side at_side slot few.
        let line = at_map line_side lines place side at_side in
        let way = cuts_of_done hosts host place commands did.last did.did.done (peers place line.0 line.1).1 in
        let within = slice_get_within did.last way.slot way.p way.at in
        let count = ap length did.left ∙ length-map did.last spared in
        ap (λ (s : FinalJournal). orders_of slot s.past) line.2
        ∙ sent.none_else (omega (arith, within, count)) slot place line.0 line.1 (omega (arith, few, count)));
    looked = λ slot place p lane side at at_lane at_side.
        let line = at_map line_side lines place side at_side in
        subst (λ (s : FinalJournal). HasLookedAt (maps s.past) lane.reader) (sym line.2)
        (looked slot place (spared p) lane line.0 (here slot p at)
        (subst (λ (h : Holding ReaderView). IsLaneAt h.routes place lane) (sym (spared_holds p)) at_lane) line.1);
    cut = all_from (λ (side : FinalJournal). HasShut (cuts_to host side.peer commands) side.past ⊎ (open_stream side.past ≡ None)) (map line_side lines)
        (λ place side at_side.
        let line = at_map line_side lines place side at_side in
        let to = peers place line.0 line.1 in
        subst (λ (s : FinalJournal). HasShut (cuts_to host s.peer commands) s.past ⊎ (open_stream s.past ≡ None)) (sym line.2)
        (⊎_elim (λ shut. inl shut) (λ used. inr used.1) (asked_done hosts host commands places lines did cut place line.0 line.1 to.0 to.1)));
    filled = all_filled hosts host commands places lines peers did grounded;
    gone = all_from (AllWentToSockets (map socket_view kept)) (map line_side lines)
        (λ place side at_side.
        let line = at_map line_side lines place side at_side in
        subst (λ (s : FinalJournal). AllWentToSockets (map socket_view kept) s) (sym line.2) (gone place line.0 line.1));
    found = record {
      led = led.led;
      began = led.began;
      rest = led.rest;
      found = λ slot o q got more at_o at_q.
          let seat = seat_kept host (after_binds commands) led.led did.last led.rest slot o q got more at_o at_q in
          all_from (IsAlwaysFound o.port) (map line_side lines)
          (λ place side at_side.
          let line = at_map line_side lines place side at_side in
          let always = subst (λ (s : PortSeat). WasAlwaysTold (telling_of s.view) line.0.ports.view) (sym seat.0) (led.told slot place o got line.0 at_o line.1) in
          subst (λ (s : FinalJournal). IsAlwaysFound o.port s) (sym line.2)
          (subst (λ (p : ℕ). IsAlwaysFound p (line_side line.0)) seat.1 (found slot place q more line.0 (here slot (Bound q more) at_q) line.1 always)));
    };
    names = names_of kept ∙ (of_kept.names ∙ (ap (λ (l : List Place). somes (map used_name l)) did.left ∙ names_spared did.last));
    handed = All-map (λ (s : FinalSocket). (p : Place) × (slice_get did.last s.slot ≡ Some p) × HandedOutAt p s) socket_view kept
        (All-weaker (λ (k : Kept). (p : Place) × (slice_get places k.slot ≡ Some p) × HandedOutAt p (socket_view k))
        (λ (k : Kept). (p : Place) × (slice_get did.last k.slot ≡ Some p) × HandedOutAt p (socket_view k)) back kept of_kept.handed);
  }
    where
      led : HasLed host commands did.did.done.first did.last lines
      led = did.did.led

      here : (slot : ℕ) (p : Place) → slice_get did.last slot ≡ Some p → slice_get places slot ≡ Some (spared p)
      here slot p at =
          subst (λ (l : List Place). slice_get l slot ≡ Some (spared p)) (sym did.left) (slice_get-map spared did.last slot ∙ ap (option_map spared) at)

      back : (k : Kept) → (p : Place) × (slice_get places k.slot ≡ Some p) × HandedOutAt p (socket_view k) →
          (p : Place) × (slice_get did.last k.slot ≡ Some p) × HandedOutAt p (socket_view k)
      back k is =
          let was = at_map spared did.last k.slot is.0 (subst (λ (l : List Place). slice_get l k.slot ≡ Some is.0) did.left is.1) in
          (was.0, was.1, hands_spared was.0 (socket_view k) (subst (λ (x : Place). HandedOutAt x (socket_view k)) was.2 is.2))
