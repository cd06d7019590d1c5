-- The headline for a port pair: what was delivered was accepted for it, in order and each once, and of what was accepted, up to
-- the last number that arrived, nothing is missing.
use Rattle.std.proofs.Common.{◌≡◌, ◌⊎◌, inl, inr, ℕ, ◌≤◌, ◌==◌, ◌&&◌, Bool, true, Some, is_some, List, [], ◌∷◌, refl, sym, ◌∙◌, ap, subst, arith}
use Rattle.std.specs.List.{Contains}
use Rattle.std.proofs.lemmas.Bool.{and_parts, and_from, or_cases, eqb-true, eq-eqb, false≢true}
use Rattle.rds_wire.specs.declared.frame.Frame.{Frame}
use Rattle.rds_model.specs.declared.entry.Entry.{Entry}
use Rattle.rds_model.specs.declared.entry.Entry.TheVariants.{Read}
use Rattle.rds_model.specs.declared.entry.Outcome.{Outcome}
use Rattle.rds_model.specs.declared.entry.Outcome.TheVariants as outcome
use Rattle.rds_model.specs.Past.{Moment, now, Accepted, datagram, number, passes, last_passed}
use Rattle.rds_model.specs.Streams.{was_passed}
use Rattle.rds_model.specs.Alive.{was_taken_back}
use Rattle.rds_model.specs.Fifo.{Carries}
use Rattle.rds_model.specs.Pairs.{accepted_for, is_between, read_with, is_delivery, is_delivery_to, is_drop, is_port_0, delivered, delivered_to, dropped, taken_by_port_0, taken_back, IsDeliveredOnce}
use Rattle.rds_model.proofs.Moments.{past_of, of_two_entries, first, second, same}
use Rattle.rds_model.specs.NumberLaws.{number_of_known}
use Rattle.rds_model.proofs.Matching.{ArePeers}
use Rattle.rds_model.proofs.Rise.{PassedAt, passed_before, rise, passed_bounds}
use Rattle.rds_model.proofs.Fifo.{fifo}
use Rattle.rds_model.proofs.NumberLists.{in_filter}
use Rattle.rds_model.proofs.ReadLists.{ReadFor, read_for, listed_at, rises}
use Rattle.rds_model.proofs.AcceptedLists.{AcceptedFor, accepted_number, number_accepted}

-- a passed read was delivered, dropped or taken by port 0
delivery_passes : (o : Outcome) → is_delivery o ≡ true → passes o ≡ true
delivery_passes (outcome.Slot slot) is = refl
delivery_passes _ is = absurd (false≢true is)

delivery_to_slot : (z : ℕ) (o : Outcome) → is_delivery_to z o ≡ true → o ≡ outcome.Slot z
delivery_to_slot z (outcome.Slot to) is = ap outcome.Slot (eqb-true to z is)
delivery_to_slot z _ is = absurd (false≢true is)

fate : (o : Outcome) → passes o ≡ true → (is_delivery o ≡ true) ⊎ (is_drop o ≡ true) ⊎ (is_port_0 o ≡ true)
fate (outcome.Slot slot) passed = inl refl
fate outcome.NoSocket passed = inr (inl refl)
fate outcome.Ping passed = inr (inr refl)
fate outcome.Void passed = inr (inr refl)
fate outcome.Old passed = absurd (false≢true passed)
fate outcome.AckOnly passed = absurd (false≢true passed)
fate outcome.Map passed = absurd (false≢true passed)
fate outcome.OddMap passed = absurd (false≢true passed)

-- the passed read of a number
passed_at : (n : ℕ) (j : List Entry) → was_passed j n ≡ true → PassedAt n j
passed_at n [] was = absurd (false≢true was)
passed_at n (Read s f o ∷ past) was =
    elim (or_cases (passes o && (number f == n)) (was_passed past n) was) [
      | inl this ↦
          let both = and_parts (passes o) (number f == n) this in
          record { stream = s; frame = f; outcome = o; past = past; at = now; passed = both.0; is = eqb-true (number f) n both.1 }
      | inr older ↦ passed_before n (Read s f o) past (passed_at n past older)
    ]
passed_at n (x ∷ past) was = passed_before n x past (passed_at n past was)

-- two passed reads of one number are one
read_once : (s l : ℕ) (f g : Frame) (o o' : Outcome) {p q a b : List Entry} → ArePeers a b → Moment (Read s f o ∷ p) b → Moment (Read l g o' ∷ q) b →
    passes o ≡ true → passes o' ≡ true → number f ≡ number g → o ≡ o'
read_once s l f g o o' peers m n passed passed' is =
    elim (of_two_entries m n) [
      | first before_it ↦
          let bound = passed_bounds s f o peers before_it (past_of n) passed in
          absurd (omega (arith, bound, rise l g o' peers n passed'))
      | second before_it ↦
          let bound = passed_bounds l g o' peers before_it (past_of m) passed' in
          absurd (omega (arith, bound, rise s f o peers m passed))
      | same is_entry is_past ↦ cc
    ]

-- a frame that carries a datagram of the pair has the pair's ports
carried_between : (sport dport : ℕ) (f : Frame) (d : Accepted) → Carries f d → d.sport ≡ sport → d.dport ≡ dport → is_between sport dport f ≡ true
carried_between sport dport f d carries from to =
    and_from (f.header.sport == sport) (f.header.dport == dport) (eq-eqb f.header.sport sport (carries.sport ∙ from))
    (eq-eqb f.header.dport dport (carries.dport ∙ to))

the_datagram : (j : List Entry) (n : ℕ) (d e : Accepted) → datagram j n ≡ Some d → datagram j n ≡ Some e → d ≡ e
the_datagram j n d e is_d is_e = cc

module _ (sport dport : ℕ) (a b : List Entry) (peers : ArePeers a b) where
  -- a number is delivered once, so to one slot
  one_slot : (n z t : ℕ) → Contains (delivered_to z sport dport b) n → Contains (delivered_to t sport dport b) n → z ≡ t
  one_slot n z t to_s to_t =
      once (read_for (is_delivery_to z) sport dport n b to_s) (read_for (is_delivery_to t) sport dport n b to_t)
    where
      once : ReadFor (is_delivery_to z) sport dport n b → ReadFor (is_delivery_to t) sport dport n b → z ≡ t
      once x y =
          let slot_x = delivery_to_slot z x.outcome x.is_such in
          let slot_y = delivery_to_slot t y.outcome y.is_such in
          let is =
          read_once x.stream y.stream x.frame y.frame x.outcome y.outcome peers x.at y.at (ap passes slot_x) (ap passes slot_y)
          (x.is ∙ sym y.is) in
          let slots : outcome.Slot z ≡ outcome.Slot t = sym slot_x ∙ is ∙ slot_y in
          cc

  -- what was delivered for the pair was accepted for it
  delivered_accepted : (n : ℕ) → Contains (delivered sport dport b) n → Contains (accepted_for sport dport a) n
  delivered_accepted n inside = from (read_for is_delivery sport dport n b inside)
    where
      from : ReadFor is_delivery sport dport n b → Contains (accepted_for sport dport a) n
      from x =
          let (d, known, carries) = (fifo a b peers).accepted x.stream x.frame x.outcome x.past x.at (delivery_passes x.outcome x.is_such) in
          let ports = and_parts (x.frame.header.sport == sport) (x.frame.header.dport == dport) x.between in
          number_accepted sport dport n a d (ap (datagram a) (sym x.is) ∙ known) (sym carries.sport ∙ eqb-true x.frame.header.sport sport ports.0)
          (sym carries.dport ∙ eqb-true x.frame.header.dport dport ports.1)

  -- what was passed for the pair was delivered, dropped or taken by port 0
  between_ports : (n : ℕ) → AcceptedFor sport dport n a → (x : PassedAt n b) → is_between sport dport x.frame ≡ true
  between_ports n accepted x =
      let (d, known, carries) = (fifo a b peers).accepted x.stream x.frame x.outcome x.past x.at x.passed in
      let is = the_datagram a n d accepted.d (ap (datagram a) (sym x.is) ∙ known) accepted.known in
      carried_between sport dport x.frame d carries (ap (λ (e : Accepted). e.sport) is ∙ accepted.from)
      (ap (λ (e : Accepted). e.dport) is ∙ accepted.to)

  listed : (such : Outcome → Bool) (n : ℕ) → AcceptedFor sport dport n a → (x : PassedAt n b) → such x.outcome ≡ true →
      Contains (read_with such sport dport b) n
  listed such n accepted x is_such =
      subst (Contains (read_with such sport dport b)) x.is
      (listed_at such sport dport x.stream x.frame x.outcome x.at is_such (between_ports n accepted x))

  accounted : (n : ℕ) → Contains (accepted_for sport dport a) n → n ≤ last_passed b →
      Contains (delivered sport dport b) n ⊎ Contains (dropped sport dport b) n ⊎ Contains (taken_by_port_0 sport dport b) n
      ⊎ Contains (taken_back sport dport a) n
  accounted n inside within =
      let accepted = accepted_number sport dport n a inside in
      let above = (number_of_known a n (ap is_some accepted.known)).0 in
      elim ((fifo a b peers).none_lost n above within) [
        | inl was ↦ arrived accepted (passed_at n b was)
        | inr taken ↦ inr (inr (inr (in_filter (was_taken_back a) (accepted_for sport dport a) n taken inside)))
      ]
    where
      arrived : AcceptedFor sport dport n a → PassedAt n b →
          Contains (delivered sport dport b) n ⊎ Contains (dropped sport dport b) n ⊎ Contains (taken_by_port_0 sport dport b) n
          ⊎ Contains (taken_back sport dport a) n
      arrived accepted x =
          elim (fate x.outcome x.passed) [
            | inl is ↦ inl (listed is_delivery n accepted x is)
            | inr (inl is) ↦ inr (inl (listed is_drop n accepted x is))
            | inr (inr is) ↦ inr (inr (inl (listed is_port_0 n accepted x is)))
          ]

  pub delivered_once : IsDeliveredOnce sport dport a b
  delivered_once = record {
    rise = (rises is_delivery sport dport peers delivery_passes now).rising;
    one_slot = one_slot;
    rise_at = λ z. (rises (is_delivery_to z) sport dport peers (λ o is. ap passes (delivery_to_slot z o is)) now).rising;
    accepted = delivered_accepted;
    bytes = (fifo a b peers).accepted;
    none_lost = accounted;
  }
