-- What arrived at a slot for a port pair is what was sent under the numbers delivered to it.
use Rattle.std.proofs.Common.{◌≡◌, ◌≢◌, ℕ, ◌==◌, ◌&&◌, Bool, true, false, cond, Option, Some, List, [], ◌∷◌, ◌++◌, map, refl, sym, ◌∙◌, ap, subst, arith}
use Rattle.std.specs.Option.{option_map}
use Rattle.std.proofs.lemmas.Bool.{eqb-true, eqb-false, eq-eqb, ne_eqb, cond-true, cond-false}
use Rattle.std.proofs.lemmas.List.{append-nil, map_push}
use Rattle.std.proofs.lemmas.List.Elements.{filter-append}
use Rattle.rds_wire.specs.declared.frame.Frame.{Frame}
use Rattle.rds_model.specs.declared.entry.Entry.{Entry}
use Rattle.rds_model.specs.declared.entry.Entry.TheVariants.{Accept, Cancel, Open, Pull, Read, Shut, Bad}
use Rattle.rds_model.specs.declared.entry.Outcome.{Outcome}
use Rattle.rds_model.specs.declared.entry.Outcome.TheVariants as outcome
use Rattle.rds_model.specs.declared.order.Datagram.{Datagram}
use Rattle.rds_model.specs.Past.{Moment, now, before, Accepted, datagram, number, passes}
use Rattle.rds_model.specs.Pairs.{is_between, delivered_to}
use Rattle.rds_model.specs.Fifo.{Carries}
use Rattle.rds_model.specs.Deliveries.{datagram_from}
use Rattle.rds_text.specs.Hosts.{address_of}
use Rattle.rds_history.specs.Events.{Event, Appended}
use Rattle.rds_history.specs.Journals.{journal}
use Rattle.rds_history.specs.Sockets.{arrived_datagrams, delivery}
use Rattle.rds_history.specs.Sound.{as_sent, is_of_ports, of_ports}

-- hosts have different addresses
pub address_apart : (h k : ℕ) → h ≢ k → (address_of h == address_of k) ≡ false
address_apart h k apart = ne_eqb (address_of h) (address_of k) (λ same. apart (omega (arith, same)))

-- a datagram that host h accepted, by its number in the journal
abbrev pub as_datagram : (h : ℕ) → List Entry → ℕ → Option Datagram
as_datagram h a n = option_map (as_sent h) (datagram a n)

-- what passed was accepted under its number
abbrev pub AreAccepted : (a j : List Entry) → Type 0
AreAccepted a j = (s : ℕ) (f : Frame) (o : Outcome) (q : List Entry) → Moment (Read s f o ∷ q) j → passes o ≡ true →
    (d : Accepted) × (datagram a (number f) ≡ Some d) × Carries f d

-- a frame from h that passed
pub sent_is : (h : ℕ) (a : List Entry) (f : Frame) → (d : Accepted) × (datagram a (number f) ≡ Some d) × Carries f d →
    Some (datagram_from (address_of h) f) ≡ as_datagram h a (number f)
sent_is h a f accepted =
    let carries = accepted.2 in
    (λ i. Some (record { from = address_of h; sport = carries.sport i; dport = carries.dport i; payload = carries.payload i }))
    ∙ sym (ap (option_map (as_sent h)) accepted.1)

-- from port sport of host h, of which this is the journal, to port dport of host k
module _ (h sport k dport slot : ℕ) (a : List Entry) where
  -- these arrived, and those numbers were delivered
  abbrev Agrees : List Datagram → List ℕ → Type 0
  Agrees datagrams numbers = map (λ (d : Datagram). Some d) (of_ports h sport dport datagrams) ≡ map (as_datagram h a) numbers

  -- one more that is of the ports, or isn't
  shown_more : (ds : List Datagram) (d : Datagram) → is_of_ports h sport dport d ≡ true →
      map (λ (d : Datagram). Some d) (of_ports h sport dport (ds ++ d ∷ [])) ≡ map (λ (d : Datagram). Some d) (of_ports h sport dport ds) ++ Some d ∷ []
  shown_more ds d is =
      ap (map (λ (d : Datagram). Some d))
      (filter-append (is_of_ports h sport dport) ds (d ∷ [])
      ∙ ap (λ (l : List Datagram). of_ports h sport dport ds ++ l) (cond-true (is_of_ports h sport dport d) (d ∷ []) [] is))
      ∙ map_push (λ (d : Datagram). Some d) (of_ports h sport dport ds) d

  shown_other : (ds : List Datagram) (d : Datagram) → is_of_ports h sport dport d ≡ false → of_ports h sport dport (ds ++ d ∷ []) ≡ of_ports h sport dport ds
  shown_other ds d isnt =
      filter-append (is_of_ports h sport dport) ds (d ∷ [])
      ∙ ap (λ (l : List Datagram). of_ports h sport dport ds ++ l) (cond-false (is_of_ports h sport dport d) (d ∷ []) [] isnt)
      ∙ append-nil (of_ports h sport dport ds)

  -- the datagram of a frame is of the ports just where the frame is
  ports_of : (f : Frame) → is_of_ports h sport dport (datagram_from (address_of h) f) ≡ is_between sport dport f
  ports_of f = ap (λ (b : Bool). b && is_between sport dport f) (eq-eqb (address_of h) (address_of h) refl)

  not_of : (peer : ℕ) (f : Frame) → peer ≢ h → is_of_ports h sport dport (datagram_from (address_of peer) f) ≡ false
  not_of peer f apart = ap (λ (b : Bool). b && is_between sport dport f) (address_apart peer h apart)

  -- a frame from h is delivered
  agrees_delivered : (ds : List Datagram) (numbers : List ℕ) (f : Frame) → Agrees ds numbers →
      (d : Accepted) × (datagram a (number f) ≡ Some d) × Carries f d → (to between : Bool) → is_between sport dport f ≡ between →
      Agrees (ds ++ cond to (datagram_from (address_of h) f ∷ []) []) (cond (to && between) (numbers ++ number f ∷ []) numbers)
  agrees_delivered ds numbers f agrees accepted false between is = ap (λ (l : List Datagram). map (λ (d : Datagram). Some d) (of_ports h sport dport l)) (append-nil ds) ∙ agrees
  agrees_delivered ds numbers f agrees accepted true false isnt =
      ap (map (λ (d : Datagram). Some d)) (shown_other ds (datagram_from (address_of h) f) (ports_of f ∙ isnt)) ∙ agrees
  agrees_delivered ds numbers f agrees accepted true true is =
      shown_more ds (datagram_from (address_of h) f) (ports_of f ∙ is)
      ∙ (λ i. agrees i ++ sent_is h a f accepted i ∷ [])
      ∙ sym (map_push (as_datagram h a) numbers (number f))

  agrees_none : (ds : List Datagram) (numbers : List ℕ) → Agrees ds numbers → Agrees (ds ++ []) numbers
  agrees_none ds numbers agrees = ap (λ (l : List Datagram). map (λ (d : Datagram). Some d) (of_ports h sport dport l)) (append-nil ds) ∙ agrees

  agrees_read : (ds : List Datagram) (j : List Entry) (s : ℕ) (f : Frame) (o : Outcome) → Agrees ds (delivered_to slot sport dport j) →
      AreAccepted a (Read s f o ∷ j) → Agrees (ds ++ delivery slot h f o) (delivered_to slot sport dport (Read s f o ∷ j))
  agrees_read ds j s f (outcome.Slot to) agrees accepted =
      agrees_delivered ds (delivered_to slot sport dport j) f agrees (accepted s f (outcome.Slot to) j now refl) (to == slot) (is_between sport dport f) refl
  agrees_read ds j s f outcome.Old agrees accepted = agrees_none ds (delivered_to slot sport dport j) agrees
  agrees_read ds j s f outcome.NoSocket agrees accepted = agrees_none ds (delivered_to slot sport dport j) agrees
  agrees_read ds j s f outcome.Ping agrees accepted = agrees_none ds (delivered_to slot sport dport j) agrees
  agrees_read ds j s f outcome.Void agrees accepted = agrees_none ds (delivered_to slot sport dport j) agrees
  agrees_read ds j s f outcome.AckOnly agrees accepted = agrees_none ds (delivered_to slot sport dport j) agrees
  agrees_read ds j s f outcome.Map agrees accepted = agrees_none ds (delivered_to slot sport dport j) agrees
  agrees_read ds j s f outcome.OddMap agrees accepted = agrees_none ds (delivered_to slot sport dport j) agrees

  -- a frame from another host is delivered
  agrees_other : (ds : List Datagram) (numbers : List ℕ) (peer : ℕ) (f : Frame) (o : Outcome) → peer ≢ h → Agrees ds numbers →
      Agrees (ds ++ delivery slot peer f o) numbers
  agrees_other ds numbers peer f (outcome.Slot to) apart agrees = go (to == slot)
    where
      go : (b : Bool) → Agrees (ds ++ cond b (datagram_from (address_of peer) f ∷ []) []) numbers
      go true = ap (map (λ (d : Datagram). Some d)) (shown_other ds (datagram_from (address_of peer) f) (not_of peer f apart)) ∙ agrees
      go false = agrees_none ds numbers agrees
  agrees_other ds numbers peer f outcome.Old apart agrees = agrees_none ds numbers agrees
  agrees_other ds numbers peer f outcome.NoSocket apart agrees = agrees_none ds numbers agrees
  agrees_other ds numbers peer f outcome.Ping apart agrees = agrees_none ds numbers agrees
  agrees_other ds numbers peer f outcome.Void apart agrees = agrees_none ds numbers agrees
  agrees_other ds numbers peer f outcome.AckOnly apart agrees = agrees_none ds numbers agrees
  agrees_other ds numbers peer f outcome.Map apart agrees = agrees_none ds numbers agrees
  agrees_other ds numbers peer f outcome.OddMap apart agrees = agrees_none ds numbers agrees

  -- an entry that delivers nothing
  agrees_silent : (e : Entry) (j : List Entry) (ds : List Datagram) → delivered_to slot sport dport (e ∷ j) ≡ delivered_to slot sport dport j →
      (AreAccepted a j → Agrees ds (delivered_to slot sport dport j)) → (b : Bool) → AreAccepted a (cond b (e ∷ j) j) →
      Agrees ds (delivered_to slot sport dport (cond b (e ∷ j) j))
  agrees_silent e j ds silent earlier true accepted =
      earlier (λ s f o q m passed. accepted s f o q (before m) passed) ∙ ap (map (as_datagram h a)) (sym silent)
  agrees_silent e j ds silent earlier false accepted = earlier accepted

  -- a frame is read at some host
  agrees_event : (host peer s : ℕ) (f : Frame) (o : Outcome) (j : List Entry) (ds : List Datagram) →
      (AreAccepted a j → Agrees ds (delivered_to slot sport dport j)) → (at : Bool) → AreAccepted a (cond (at && (peer == h)) (Read s f o ∷ j) j) →
      Agrees (cond at (ds ++ delivery slot peer f o) ds) (delivered_to slot sport dport (cond (at && (peer == h)) (Read s f o ∷ j) j))
  agrees_event host peer s f o j ds earlier false accepted = earlier accepted
  agrees_event host peer s f o j ds earlier true accepted = by_peer (peer == h) refl accepted
    where
      by_peer : (from : Bool) → (peer == h) ≡ from → AreAccepted a (cond from (Read s f o ∷ j) j) →
          Agrees (ds ++ delivery slot peer f o) (delivered_to slot sport dport (cond from (Read s f o ∷ j) j))
      by_peer true is ok =
          subst (λ (i : ℕ). Agrees (ds ++ delivery slot i f o) (delivered_to slot sport dport (Read s f o ∷ j))) (sym (eqb-true peer h is))
          (agrees_read ds j s f o (earlier (λ s f o q m passed. ok s f o q (before m) passed)) ok)
      by_peer false is ok = agrees_other ds (delivered_to slot sport dport j) peer f o (λ same. eqb-false peer h is same) (earlier ok)

  pub agrees_past : (past : List Event) → AreAccepted a (journal k h past) →
      Agrees (arrived_datagrams k slot past) (delivered_to slot sport dport (journal k h past))
  agrees_past [] accepted = refl
  agrees_past (Appended host peer (Read s f o) ∷ past) accepted =
      agrees_event host peer s f o (journal k h past) (arrived_datagrams k slot past) (agrees_past past) (host == k) accepted
  agrees_past (Appended host peer (Accept n from to payload) ∷ past) accepted =
      agrees_silent (Accept n from to payload) (journal k h past) (arrived_datagrams k slot past) refl (agrees_past past) (host == k && (peer == h)) accepted
  agrees_past (Appended host peer (Cancel n target) ∷ past) accepted =
      agrees_silent (Cancel n target) (journal k h past) (arrived_datagrams k slot past) refl (agrees_past past) (host == k && (peer == h)) accepted
  agrees_past (Appended host peer (Open s) ∷ past) accepted =
      agrees_silent (Open s) (journal k h past) (arrived_datagrams k slot past) refl (agrees_past past) (host == k && (peer == h)) accepted
  agrees_past (Appended host peer (Pull s f) ∷ past) accepted =
      agrees_silent (Pull s f) (journal k h past) (arrived_datagrams k slot past) refl (agrees_past past) (host == k && (peer == h)) accepted
  agrees_past (Appended host peer (Shut s) ∷ past) accepted =
      agrees_silent (Shut s) (journal k h past) (arrived_datagrams k slot past) refl (agrees_past past) (host == k && (peer == h)) accepted
  agrees_past (Appended host peer (Bad s header cause) ∷ past) accepted =
      agrees_silent (Bad s header cause) (journal k h past) (arrived_datagrams k slot past) refl (agrees_past past) (host == k && (peer == h)) accepted
  agrees_past (_ ∷ past) accepted = agrees_past past accepted
