-- What was delivered to a slot for a port pair is what was sent under the numbers delivered to it.
use Rattle.std.proofs.Common.{◌≡◌, ℕ, ◌==◌, ◌&&◌, Bool, true, false, cond, Option, Some, List, [], ◌∷◌, ◌++◌, map, refl, sym, ◌∙◌, ap}
use Rattle.std.specs.Option.{option_map}
use Rattle.std.proofs.lemmas.Bool.{eq-eqb, cond-true, cond-false}
use Rattle.std.proofs.lemmas.List.{append-nil, map_push}
use Rattle.std.proofs.lemmas.List.Elements.{filter-append}
use Rattle.rds_wire.specs.declared.frame.Frame.{Frame}
use Rattle.rds_model.specs.declared.entry.Entry.{Entry}
use Rattle.rds_model.specs.declared.entry.Entry.TheVariants.{Accept, Cancel, Open, Pull, Read, Shut, Bad}
use Rattle.rds_model.specs.declared.entry.Outcome.{Outcome}
use Rattle.rds_model.specs.declared.entry.Outcome.TheVariants as outcome
use Rattle.rds_model.specs.declared.order.Datagram.{Datagram}
use Rattle.rds_model.specs.Past.{Moment, now, before, Accepted, datagram, number, passes}
use Rattle.rds_model.specs.Pairs.{is_between, delivered_to}
use Rattle.rds_model.specs.Fifo.{Carries}
use Rattle.rds_model.specs.Deliveries.{datagram_from, delivered_datagrams}
use Rattle.rds_text.specs.Hosts.{address_of}
use Rattle.rds_history.specs.Sound.{as_sent, is_of_ports, of_ports}

-- a datagram that host h accepted, by its number in the journal
abbrev pub as_datagram : (h : ℕ) → List Entry → ℕ → Option Datagram
as_datagram h a n = option_map (as_sent h) (datagram a n)

-- what passed was accepted under its number
abbrev pub AreAccepted : (a j : List Entry) → Type 0
AreAccepted a j = (s : ℕ) (f : Frame) (o : Outcome) (q : List Entry) → Moment (Read s f o ∷ q) j → passes o ≡ true →
    (d : Accepted) × (datagram a (number f) ≡ Some d) × Carries f d

-- a frame from h that passed
pub sent_is : (h : ℕ) (a : List Entry) (f : Frame) → (d : Accepted) × (datagram a (number f) ≡ Some d) × Carries f d →
    Some (datagram_from (address_of h) f) ≡ as_datagram h a (number f)
sent_is h a f accepted =
    let carries = accepted.2 in
    (λ i. Some (record { from = address_of h; sport = carries.sport i; dport = carries.dport i; payload = carries.payload i }))
    ∙ sym (ap (option_map (as_sent h)) accepted.1)

-- from port sport of host h, of which this is the journal, to port dport of another host
module _ (h sport dport slot : ℕ) (a : List Entry) where
  -- these came, and those numbers were delivered
  abbrev Agrees : List Datagram → List ℕ → Type 0
  Agrees datagrams numbers = map (λ (d : Datagram). Some d) (of_ports h sport dport datagrams) ≡ map (as_datagram h a) numbers

  -- one more that is of the ports, or isn't
  shown_more : (ds : List Datagram) (d : Datagram) → is_of_ports h sport dport d ≡ true →
      map (λ (d : Datagram). Some d) (of_ports h sport dport (ds ++ d ∷ [])) ≡ map (λ (d : Datagram). Some d) (of_ports h sport dport ds) ++ Some d ∷ []
  shown_more ds d is =
      ap (map (λ (d : Datagram). Some d))
      (filter-append (is_of_ports h sport dport) ds (d ∷ [])
      ∙ ap (λ (l : List Datagram). of_ports h sport dport ds ++ l) (cond-true (is_of_ports h sport dport d) (d ∷ []) [] is))
      ∙ map_push (λ (d : Datagram). Some d) (of_ports h sport dport ds) d

  shown_other : (ds : List Datagram) (d : Datagram) → is_of_ports h sport dport d ≡ false → of_ports h sport dport (ds ++ d ∷ []) ≡ of_ports h sport dport ds
  shown_other ds d isnt =
      filter-append (is_of_ports h sport dport) ds (d ∷ [])
      ∙ ap (λ (l : List Datagram). of_ports h sport dport ds ++ l) (cond-false (is_of_ports h sport dport d) (d ∷ []) [] isnt)
      ∙ append-nil (of_ports h sport dport ds)

  -- the datagram of a frame is of the ports just where the frame is
  ports_of : (f : Frame) → is_of_ports h sport dport (datagram_from (address_of h) f) ≡ is_between sport dport f
  ports_of f = ap (λ (b : Bool). b && is_between sport dport f) (eq-eqb (address_of h) (address_of h) refl)

  -- a frame is delivered to the slot, or isn't
  agrees_delivered : (ds : List Datagram) (numbers : List ℕ) (f : Frame) → Agrees ds numbers →
      (d : Accepted) × (datagram a (number f) ≡ Some d) × Carries f d → (to between : Bool) → is_between sport dport f ≡ between →
      Agrees (cond to (ds ++ datagram_from (address_of h) f ∷ []) ds) (cond (to && between) (numbers ++ number f ∷ []) numbers)
  agrees_delivered ds numbers f agrees accepted false between is = agrees
  agrees_delivered ds numbers f agrees accepted true false isnt =
      ap (map (λ (d : Datagram). Some d)) (shown_other ds (datagram_from (address_of h) f) (ports_of f ∙ isnt)) ∙ agrees
  agrees_delivered ds numbers f agrees accepted true true is =
      shown_more ds (datagram_from (address_of h) f) (ports_of f ∙ is)
      ∙ (λ i. agrees i ++ sent_is h a f accepted i ∷ [])
      ∙ sym (map_push (as_datagram h a) numbers (number f))

  agrees_read : (j : List Entry) (s : ℕ) (f : Frame) (o : Outcome) → Agrees (delivered_datagrams (address_of h) slot j) (delivered_to slot sport dport j) →
      AreAccepted a (Read s f o ∷ j) → Agrees (delivered_datagrams (address_of h) slot (Read s f o ∷ j)) (delivered_to slot sport dport (Read s f o ∷ j))
  agrees_read j s f (outcome.Slot to) agrees accepted =
      agrees_delivered (delivered_datagrams (address_of h) slot j) (delivered_to slot sport dport j) f agrees
      (accepted s f (outcome.Slot to) j now refl) (to == slot) (is_between sport dport f) refl
  agrees_read j s f outcome.Old agrees accepted = agrees
  agrees_read j s f outcome.NoSocket agrees accepted = agrees
  agrees_read j s f outcome.Ping agrees accepted = agrees
  agrees_read j s f outcome.Void agrees accepted = agrees
  agrees_read j s f outcome.AckOnly agrees accepted = agrees
  agrees_read j s f outcome.Map agrees accepted = agrees
  agrees_read j s f outcome.OddMap agrees accepted = agrees

  pub agrees_journal : (j : List Entry) → AreAccepted a j →
      Agrees (delivered_datagrams (address_of h) slot j) (delivered_to slot sport dport j)
  agrees_journal [] accepted = refl
  agrees_journal (Read s f o ∷ j) accepted = agrees_read j s f o (agrees_journal j (λ s f o q m passed. accepted s f o q (before m) passed)) accepted
  agrees_journal (Accept n from to payload ∷ j) accepted = agrees_journal j (λ s f o q m passed. accepted s f o q (before m) passed)
  agrees_journal (Cancel n target ∷ j) accepted = agrees_journal j (λ s f o q m passed. accepted s f o q (before m) passed)
  agrees_journal (Open s ∷ j) accepted = agrees_journal j (λ s f o q m passed. accepted s f o q (before m) passed)
  agrees_journal (Pull s f ∷ j) accepted = agrees_journal j (λ s f o q m passed. accepted s f o q (before m) passed)
  agrees_journal (Shut s ∷ j) accepted = agrees_journal j (λ s f o q m passed. accepted s f o q (before m) passed)
  agrees_journal (Bad s header cause ∷ j) accepted = agrees_journal j (λ s f o q m passed. accepted s f o q (before m) passed)
