-- What was delivered to a slot went to a socket that had its port.
use Rattle.std.proofs.Common.{◌≡◌, ℕ, zero, suc, List, [], ◌∷◌, Option, Some, None, length, map, option_map, slice_get, refl, sym, ap, subst, ◌∙◌}
use Rattle.std.proofs.lemmas.Option.{same_Some, slice_get-map}
use Rattle.std.specs.Prelude.{unwrap_or}
use Rattle.rds_bindtab.specs.Seats.{PortSeat, telling_of}
use Rattle.rds_fmap.specs.Readers.{ReaderView, WriterView}
use Rattle.rds_text.specs.FinalViews.{socket_view}
use Rattle.rds_text.specs.declared.final_state.Kept.{Kept}
use Rattle.rds_socket.specs.Holding.{Holding}
use Rattle.rds_line.specs.Line.{LineView}
use Rattle.rds_line.specs.Seats.{WasAlwaysTold}
use Rattle.rds_host.specs.Slots.{AreInPlace}
use Rattle.rds_host_end.specs.Owned.{AreFound, AreOwned}
use Rattle.rds_run_callers.specs.Ends.{AreEndsOf, HasItsPort, HaveTheirPorts, claimed_port, kept_name, used_name}
use Rattle.rds_run_callers.specs.Places.{Bound, Ended, Place, Spare, Vacant, holding_of, somes, with_holding}
use Rattle.rds_run_settling.specs.Tied.{PlacesHear, holdings}
use Rattle.rds_run_threads.specs.Settled.{HaveAllFound, HaveAllGone}
use Rattle.rds_run_threads.proofs.At.{at_map, held_at, stood_at}

name_first : (name : Option (ℕ × ℕ)) (rest : List (Option (ℕ × ℕ))) (n : ℕ × ℕ) → name ≡ Some n → slice_get (somes (name ∷ rest)) 0 ≡ Some n
name_first None rest n is = absurd (cc)
name_first (Some m) rest n is = is

name_later : (name : Option (ℕ × ℕ)) (rest : List (Option (ℕ × ℕ))) (n : ℕ × ℕ) → (i : ℕ) × (slice_get (somes rest) i ≡ Some n) →
    (i : ℕ) × (slice_get (somes (name ∷ rest)) i ≡ Some n)
name_later None rest n at = at
name_later (Some m) rest n at = (suc at.0, at.1)

-- the name of a slot that had a socket is among those of all slots
named_at : (places : List Place) (slot : ℕ) (p : Place) (n : ℕ × ℕ) → slice_get places slot ≡ Some p → used_name p ≡ Some n →
    (i : ℕ) × (slice_get (somes (map used_name places)) i ≡ Some n)
named_at [] slot p n at is = absurd (cc)
named_at (q ∷ places) zero p n at is = (0, name_first (used_name q) (map used_name places) n (ap used_name (same_Some q p at) ∙ is))
named_at (q ∷ places) (suc slot) p n at is = name_later (used_name q) (map used_name places) n (named_at places slot p n at is)

-- a slot that has claimed a port had a socket with it
name_of : (p : Place) (port : ℕ) → claimed_port p ≡ Some port → used_name p ≡ Some ((holding_of p).words.slot, port)
name_of (Vacant h) port is = absurd (cc)
name_of (Bound o got) port is = ap (λ (x : Option ℕ). option_map (λ (n : ℕ). (o.own.words.slot, n)) x) is
name_of (Ended q h got) port is = ap (λ (x : Option ℕ). option_map (λ (n : ℕ). (h.words.slot, n)) x) is
name_of (Spare h) port is = absurd (cc)

module _ {E : Type 0} where
  pub went_to_sockets : (told : List Place) (closed : List (Holding ReaderView)) (lines : List (LineView E WriterView)) (kept : List Kept) →
      AreInPlace (holdings told) → length closed ≡ length told → AreOwned closed lines → HaveTheirPorts told closed →
      map kept_name kept ≡ somes (map used_name told) → HaveAllGone lines (map socket_view kept)
  went_to_sockets told closed lines kept numbered count owned claims names place line at stream slot f read =
      let h = owned place line at stream slot f read in
      let p = stood_at told closed slot h.0 count h.1 in
      let port = (claims slot p.0 h.0 p.1 h.1).claimed f.header.dport slot h.2 in
      let number = numbered slot (holding_of p.0) (held_at told slot p.0 p.1) in
      let name : ℕ × ℕ = ((holding_of p.0).words.slot, f.header.dport) in
      let found = named_at told slot p.0 name p.1 (name_of p.0 f.header.dport port) in
      let k = at_map kept_name kept found.0 name (subst (λ (l : List (ℕ × ℕ)). slice_get l found.0 ≡ Some name) (sym names) found.1) in (
        found.0,
        socket_view k.0,
        slice_get-map socket_view kept found.0 ∙ ap (option_map socket_view) k.1,
        ap (λ (n : ℕ × ℕ). n.0) (sym k.2) ∙ number,
        ap (λ (n : ℕ × ℕ). n.1) (sym k.2),
      )

  -- and a port that an open socket holds was found by the lines that were always told of it
  pub found_sockets : (places told : List Place) (closed : List (Holding ReaderView)) (lines : List (LineView E WriterView)) → PlacesHear places told →
      AreEndsOf told closed → HaveTheirPorts told closed → AreFound closed lines → HaveAllFound places lines
  found_sockets places told closed lines hear ends ports found slot place o got line at at_line always stream f missed to =
      let q = stood_at told places slot (Bound o got) (sym hear.count) at in
      let heard = hear.each slot (Bound o got) q.0 at q.1 in
      let h = stood_at closed told slot q.0 (sym ends.count) q.1 in
      let has : HasItsPort (with_holding (Bound o got) (holding_of q.0)) h.0 = subst (λ (x : Place). HasItsPort x h.0) heard.0 (ports slot q.0 h.0 q.1 h.1) in
      let holds : h.0.ports.view.port ≡ Some o.port = has.holds o.port refl in
      let same : h.0.ports ≡ o.own.ports = (ends.each slot q.0 h.0 q.1 h.1).ports ∙ ap (λ (x : Holding ReaderView). x.ports) heard.1 in
      found place slot line h.0 at_line h.1 (subst (λ (s : PortSeat). WasAlwaysTold (telling_of s.view) line.ports.view) (sym same) always) stream f missed
      (to ∙ sym (ap (λ (p : Option ℕ). unwrap_or p 0) holds))
