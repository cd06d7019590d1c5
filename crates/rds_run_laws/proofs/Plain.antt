-- Where neither end took anything back or sent to port 0, what was ordered is what was accepted, and all that was accepted is passed.
use Rattle.std.proofs.Common.{◌≡◌, ◌≢◌, inl, inr, ℕ, suc, ◌+◌, ◌<◌, ◌≤◌, ◌==◌, ◌&&◌, ◌||◌, Bool, true, false, cond, Option, Some, None, MatchOption, is_some, All, List, [], ◌∷◌, ◌++◌, length, refl, sym, ap, subst, ◌∙◌, arith}
use Rattle.std.specs.List.{Contains, filter}
use Rattle.std.proofs.lemmas.Bool.{and_from, and_parts, cases_eq, cond-true, eq-eqb, eqb-true, false≢true, or_right}
use Rattle.std.proofs.lemmas.List.Elements.{All-cons, All-contains, All-head, All-nil, All-tail, Contains-append_left, Contains-push, Contains-push_cases, filter_passes}
use Rattle.rds_wire.specs.declared.frame.Frame.{Frame}
use Rattle.rds_wire.specs.declared.header.Header.{Header}
use Rattle.rds_wire.specs.declared.kind.Kind.{Kind}
use Rattle.rds_wire.specs.declared.kind.Kind.TheVariants as kind
use Rattle.rds_wire.specs.Kinds.{kind_of}
use Rattle.rds_model.specs.declared.entry.Entry.{Entry}
use Rattle.rds_model.specs.declared.entry.Entry.TheVariants.{Accept, Cancel, Open, Pull, Read, Shut, Bad}
use Rattle.rds_model.specs.declared.entry.Outcome.{Outcome}
use Rattle.rds_model.specs.declared.entry.Outcome.TheVariants as outcome
use Rattle.rds_model.specs.declared.entry.Target.{Target}
use Rattle.rds_model.specs.declared.entry.Target.TheVariants.{Port, All as Every}
use Rattle.rds_model.specs.declared.entry.TheConstants.{NO_SLOT}
use Rattle.rds_model.specs.declared.order.Order.{Order}
use Rattle.rds_model.specs.declared.order.Order.TheVariants as order
use Rattle.rds_model.specs.Alive.{was_taken_back}
use Rattle.rds_model.specs.Fifo.{IsFifo}
use Rattle.rds_model.specs.Legal.{IsLawful, IsLegal, IsPong, pong_to}
use Rattle.rds_model.specs.LegalityLaws.{lawful_read}
use Rattle.rds_model.specs.NumberLaws.{datagram_newest, datagram_other, known_of_number}
use Rattle.rds_model.specs.Pairs.{IsAllAccounted, accepted_for, is_between, is_delivery_to, is_drop, is_port_0, read_with}
use Rattle.rds_model.specs.Past.{Accepted, Moment, now, accepted, datagram, number, passes}
use Rattle.rds_model.specs.declared.entry.Verdict.TheVariants as verdict
use Rattle.rds_model.specs.Reading.{Obeys, is_old, verdict_of, verdict_of_kind, verdict_of_ports}
use Rattle.rds_model.specs.Streams.{was_passed}
use Rattle.rds_model.specs.Sums.{cancellation, orders}
use Rattle.rds_run_laws.specs.Weights.{OnlySends, SendsToPort, Weight, accepted_sum, orders_sum}
use Rattle.rds_run_laws.proofs.Arrivals.{rest_of}

-- the front and the last of a list

front_all : {X : Type 0} (P : X → Type 0) (xs : List X) (y : X) → All P (xs ++ y ∷ []) → All P xs
front_all P [] y all = All-nil P
front_all P (x ∷ xs) y all = All-cons P x xs (All-head P x (xs ++ y ∷ []) all) (front_all P xs y (All-tail P x (xs ++ y ∷ []) all))

last_all : {X : Type 0} (P : X → Type 0) (xs : List X) (y : X) → All P (xs ++ y ∷ []) → P y
last_all P xs y all = All-contains P (xs ++ y ∷ []) y all (Contains-push xs y)

-- nothing is taken back

no_cancellation : (slot : ℕ) (target : Target) → SendsToPort (cancellation slot target) → ⊥
no_cancellation slot (Port port) is = is
no_cancellation slot Every is = is

-- the orders before an entry are only such ones too
only_before : (e : Entry) (past : List Entry) → OnlySends (e ∷ past) → OnlySends past
only_before (Accept slot sport dport payload) past only = go (slot == NO_SLOT) only
  where
    go : (b : Bool) → All SendsToPort (cond b (orders past) (orders past ++ order.Send slot sport dport payload ∷ [])) → OnlySends past
    go true all = all
    go false all = front_all SendsToPort (orders past) (order.Send slot sport dport payload) all
only_before (Cancel slot target) past only = front_all SendsToPort (orders past) (cancellation slot target) only
only_before (Open s) past only = only
only_before (Pull s f) past only = only
only_before (Read s f o) past only = only
only_before (Shut s) past only = only
only_before (Bad s h found) past only = only

pub none_back : (past : List Entry) → OnlySends past → (n : ℕ) → was_taken_back past n ≡ false
none_back [] only n = refl
none_back (Accept slot sport dport payload ∷ past) only n = none_back past (only_before (Accept slot sport dport payload) past only) n
none_back (Cancel slot target ∷ past) only n = absurd (no_cancellation slot target (last_all SendsToPort (orders past) (cancellation slot target) only))
none_back (Open s ∷ past) only n = none_back past only n
none_back (Pull s f ∷ past) only n = none_back past only n
none_back (Read s f o ∷ past) only n = none_back past only n
none_back (Shut s ∷ past) only n = none_back past only n
none_back (Bad s h found ∷ past) only n = none_back past only n

-- the ports of a ping, and of what port 0 takes without an answer

abbrev pub TakenByPort0 : Outcome → ℕ → ℕ → Type 0
TakenByPort0 outcome.Ping sport dport = (dport ≡ 0) × (sport ≢ 0)
TakenByPort0 outcome.Void sport dport = dport ≡ 0
TakenByPort0 _ sport dport = Unit {0}

by_ports : (o : Outcome) (sport dport : ℕ) → Obeys (verdict_of_ports sport dport) o → TakenByPort0 o sport dport
by_ports o sport dport obeys = go (dport == 0) refl (sport == 0) refl obeys
  where
    go : (b : Bool) → (dport == 0) ≡ b → (c : Bool) → (sport == 0) ≡ c → Obeys (cond b (cond c verdict.Void verdict.Ping) (verdict.Deliver dport)) o → TakenByPort0 o sport dport
    go true to true from obeys = subst (λ (x : Outcome). TakenByPort0 x sport dport) (sym obeys) (eqb-true dport 0 to)
    go true to false from obeys =
        subst (λ (x : Outcome). TakenByPort0 x sport dport) (sym obeys) (eqb-true dport 0 to, λ same. absurd (false≢true (sym from ∙ eq-eqb sport 0 same)))
    go false to c from obeys = delivered o obeys
      where
        delivered : (o : Outcome) → Obeys (verdict.Deliver dport) o → TakenByPort0 o sport dport
        delivered (outcome.Slot slot) obeys = tt
        delivered outcome.NoSocket obeys = tt
        delivered outcome.Old obeys = tt
        delivered outcome.AckOnly obeys = tt
        delivered outcome.Map obeys = tt
        delivered outcome.OddMap obeys = tt
        delivered outcome.Ping obeys = absurd obeys
        delivered outcome.Void obeys = absurd obeys

pub read_ports : (past : List Entry) (h : Header) (o : Outcome) → Obeys (verdict_of past h) o → TakenByPort0 o h.sport h.dport
read_ports past h o obeys = go (kind_of h) obeys
  where
    is : (x : Outcome) → o ≡ x → TakenByPort0 x h.sport h.dport → TakenByPort0 o h.sport h.dport
    is x same taken = subst (λ (y : Outcome). TakenByPort0 y h.sport h.dport) (sym same) taken

    old : (b : Bool) → Obeys (cond b verdict.Old (verdict_of_ports h.sport h.dport)) o → TakenByPort0 o h.sport h.dport
    old true same = is outcome.Old same tt
    old false obeys = by_ports o h.sport h.dport obeys

    go : (k : Kind) → Obeys (verdict_of_kind k past h) o → TakenByPort0 o h.sport h.dport
    go kind.Map same = is outcome.Map same tt
    go kind.OddMap same = is outcome.OddMap same tt
    go kind.Ack same = is outcome.AckOnly same tt
    go kind.Data obeys = old (is_old past h) obeys

-- a pong goes to a port other than 0
pong_above : (past : List Entry) (port : ℕ) → IsLegal past → pong_to past ≡ Some port → port ≢ 0
pong_above [] port legal is = cc
pong_above (Read s f outcome.Ping ∷ past) port legal is =
    let sport : f.header.sport ≡ port = cc in
    let ports = read_ports past f.header outcome.Ping (lawful_read s f outcome.Ping legal now).obeys in
    λ same. ports.1 (sport ∙ same)
pong_above (Read s f _ ∷ past) port legal is = cc
pong_above (_ ∷ past) port legal is = cc

-- each datagram that was accepted is to a port other than 0
to_port : (past : List Entry) → IsLegal past → OnlySends past → (n : ℕ) (d : Accepted) → datagram past n ≡ Some d → d.dport ≢ 0
to_port [] legal only n d known = cc
to_port (Accept slot sport dport payload ∷ past) legal only n d known =
    elim (cases_eq n (suc (accepted past))) [
      | inl newest ↦
          let same : Some (record { place = length past; slot = slot; sport = sport; dport = dport; payload = payload }) ≡ Some d =
          sym (datagram_newest slot sport dport payload past n newest) ∙ known in
          let is : record { place = length past; slot = slot; sport = sport; dport = dport; payload = payload } ≡ d = cc in
          λ none. here (slot == NO_SLOT) refl only (pong_to past) refl legal.0 (ap (λ (x : Accepted). x.dport) is ∙ none)
      | inr other ↦
          to_port past legal.1 (only_before (Accept slot sport dport payload) past only) n d (sym (datagram_other slot sport dport payload past n other) ∙ known)
    ]
  where
    here : (b : Bool) → (slot == NO_SLOT) ≡ b → All SendsToPort (cond b (orders past) (orders past ++ order.Send slot sport dport payload ∷ [])) →
        (p : Option ℕ) → pong_to past ≡ p → MatchOption p (IsLawful past (Accept slot sport dport payload)) (λ port. IsPong past port (Accept slot sport dport payload)) →
        dport ≢ 0
    here false is all p pong continues = last_all SendsToPort (orders past) (order.Send slot sport dport payload) all
    here true is all None pong lawful = absurd (lawful.socket (eqb-true slot NO_SLOT is))
    here true is all (Some port) pong answer =
        let to : dport ≡ port = (let e = answer.is in cc) in
        λ none. pong_above past port legal.1 pong (sym to ∙ none)
to_port (Cancel slot target ∷ past) legal only n d known = to_port past legal.1 (only_before (Cancel slot target) past only) n d known
to_port (Open s ∷ past) legal only n d known = to_port past legal.1 only n d known
to_port (Pull s f ∷ past) legal only n d known = to_port past legal.1 only n d known
to_port (Read s f o ∷ past) legal only n d known = to_port past legal.1 only n d known
to_port (Shut s ∷ past) legal only n d known = to_port past legal.1 only n d known
to_port (Bad s h found ∷ past) legal only n d known = to_port past legal.1 only n d known

-- no ping comes from a peer that sends none
module _ (a b : List Entry) (legal_a : IsLegal a) (legal_b : IsLegal b) (only_a : OnlySends a) (fifo : IsFifo a b) where
  pub no_ping : (s : ℕ) (f : Frame) (past : List Entry) → Moment (Read s f outcome.Ping ∷ past) b → ⊥
  no_ping s f past m =
      let ports = read_ports past f.header outcome.Ping (lawful_read s f outcome.Ping legal_b m).obeys in
      let found = fifo.accepted s f outcome.Ping past m refl in
      to_port a legal_a only_a (number f) found.0 found.1 (sym found.2.dport ∙ ports.0)

-- what was accepted sums up to what was ordered, where no pong was
orders_more : (w : Weight) (xs : List Order) (slot sport dport : ℕ) (payload : List ℕ) →
    orders_sum w (xs ++ order.Send slot sport dport payload ∷ []) ≡ orders_sum w xs + w sport dport payload
orders_more w [] slot sport dport payload = omega arith
orders_more w (order.Send s f t p ∷ xs) slot sport dport payload = let ih = orders_more w xs slot sport dport payload in omega (arith, ih)
orders_more w (order.Cancel s t ∷ xs) slot sport dport payload = orders_more w xs slot sport dport payload
orders_more w (order.CloseSocket s ∷ xs) slot sport dport payload = orders_more w xs slot sport dport payload
orders_more w (order.Cut ∷ xs) slot sport dport payload = orders_more w xs slot sport dport payload

pong_read : (past : List Entry) (port : ℕ) → pong_to past ≡ Some port → (s : ℕ) × (f : Frame) × (rest : List Entry) × (past ≡ Read s f outcome.Ping ∷ rest)
pong_read [] port is = cc
pong_read (Read s f outcome.Ping ∷ past) port is = (s, f, past, refl)
pong_read (Read s f _ ∷ past) port is = cc
pong_read (_ ∷ past) port is = cc

module _ (w : Weight) (j : List Entry) (none : (s : ℕ) (f : Frame) (past : List Entry) → Moment (Read s f outcome.Ping ∷ past) j → ⊥) where
  pub ordered : (p : List Entry) → Moment p j → IsLegal p → OnlySends p → accepted_sum w p ≡ orders_sum w (orders p)
  ordered [] m legal only = refl
  ordered (Accept slot sport dport payload ∷ past) m legal only =
      go (slot == NO_SLOT) refl (pong_to past) refl legal.0 (ordered past (rest_of m) legal.1 (only_before (Accept slot sport dport payload) past only))
    where
      go : (b : Bool) → (slot == NO_SLOT) ≡ b → (p : Option ℕ) → pong_to past ≡ p →
          MatchOption p (IsLawful past (Accept slot sport dport payload)) (λ port. IsPong past port (Accept slot sport dport payload)) →
          accepted_sum w past ≡ orders_sum w (orders past) →
          accepted_sum w past + w sport dport payload ≡ orders_sum w (cond b (orders past) (orders past ++ order.Send slot sport dport payload ∷ []))
      go false is p pong continues ih = let more = orders_more w (orders past) slot sport dport payload in omega (arith, ih, more)
      go true is None pong lawful ih = absurd (lawful.socket (eqb-true slot NO_SLOT is))
      go true is (Some port) pong answer ih =
          let at = pong_read past port pong in
          absurd (none at.0 at.1 at.2 (subst (λ (l : List Entry). Moment l j) at.3 (rest_of m)))
  ordered (Cancel slot target ∷ past) m legal only = absurd (no_cancellation slot target (last_all SendsToPort (orders past) (cancellation slot target) only))
  ordered (Open s ∷ past) m legal only = ordered past (rest_of m) legal.1 only
  ordered (Pull s f ∷ past) m legal only = ordered past (rest_of m) legal.1 only
  ordered (Read s f o ∷ past) m legal only = ordered past (rest_of m) legal.1 only
  ordered (Shut s ∷ past) m legal only = ordered past (rest_of m) legal.1 only
  ordered (Bad s h found ∷ past) m legal only = ordered past (rest_of m) legal.1 only

-- each number that was accepted was passed

-- a number of a port pair is listed
listed : (past : List Entry) (n : ℕ) (d : Accepted) → datagram past n ≡ Some d → Contains (accepted_for d.sport d.dport past) n
listed [] n d known = cc
listed (Accept slot sport dport payload ∷ past) n d known =
    elim (cases_eq n (suc (accepted past))) [
      | inl newest ↦
          let same : Some (record { place = length past; slot = slot; sport = sport; dport = dport; payload = payload }) ≡ Some d =
          sym (datagram_newest slot sport dport payload past n newest) ∙ known in
          let is : record { place = length past; slot = slot; sport = sport; dport = dport; payload = payload } ≡ d = cc in
          let this = and_from (sport == d.sport) (dport == d.dport) (eq-eqb sport d.sport (ap (λ (x : Accepted). x.sport) is)) (eq-eqb dport d.dport (ap (λ (x : Accepted). x.dport) is)) in
          let list = cond-true _ (accepted_for d.sport d.dport past ++ suc (accepted past) ∷ []) (accepted_for d.sport d.dport past) this in
          subst (λ (l : List ℕ). Contains l n) (sym list)
          (subst (Contains (accepted_for d.sport d.dport past ++ suc (accepted past) ∷ [])) (sym newest) (Contains-push (accepted_for d.sport d.dport past) (suc (accepted past))))
      | inr other ↦
          later (sport == d.sport && (dport == d.dport)) (listed past n d (sym (datagram_other slot sport dport payload past n other) ∙ known))
    ]
  where
    later : (b : Bool) → Contains (accepted_for d.sport d.dport past) n →
        Contains (cond b (accepted_for d.sport d.dport past ++ suc (accepted past) ∷ []) (accepted_for d.sport d.dport past)) n
    later true inside = Contains-append_left (accepted_for d.sport d.dport past) (suc (accepted past) ∷ []) n inside
    later false inside = inside
listed (Cancel slot target ∷ past) n d known = listed past n d known
listed (Open s ∷ past) n d known = listed past n d known
listed (Pull s f ∷ past) n d known = listed past n d known
listed (Read s f o ∷ past) n d known = listed past n d known
listed (Shut s ∷ past) n d known = listed past n d known
listed (Bad s h found ∷ past) n d known = listed past n d known

module _ (such : Outcome → Bool) (passing : (o : Outcome) → such o ≡ true → passes o ≡ true) (sport dport n : ℕ) where
  read_passed : (b : List Entry) → Contains (read_with such sport dport b) n → was_passed b n ≡ true
  read_passed [] inside = absurd (let (k, within, is) = inside in omega (arith, within))
  read_passed (Read s f o ∷ past) inside = go (such o && is_between sport dport f) refl inside (read_passed past)
    where
      older : was_passed past n ≡ true → (passes o && (number f == n) || was_passed past n) ≡ true
      older was = or_right (passes o && (number f == n)) (was_passed past n) was

      go : (t : Bool) → (such o && is_between sport dport f) ≡ t →
          Contains (cond t (read_with such sport dport past ++ number f ∷ []) (read_with such sport dport past)) n →
          (Contains (read_with such sport dport past) n → was_passed past n ≡ true) → (passes o && (number f == n) || was_passed past n) ≡ true
      go false is inside ih = older (ih inside)
      go true is inside ih =
          elim (Contains-push_cases (read_with such sport dport past) (number f) n inside) [
            | inl first ↦ older (ih first)
            | inr last ↦
                let this = and_from (passes o) (number f == n) (passing o (and_parts (such o) (is_between sport dport f) is).0) (eq-eqb (number f) n last) in
                ap (λ (t : Bool). t || was_passed past n) this
          ]
  read_passed (Accept slot from to payload ∷ past) inside = read_passed past inside
  read_passed (Cancel slot target ∷ past) inside = read_passed past inside
  read_passed (Open s ∷ past) inside = read_passed past inside
  read_passed (Pull s f ∷ past) inside = read_passed past inside
  read_passed (Shut s ∷ past) inside = read_passed past inside
  read_passed (Bad s h found ∷ past) inside = read_passed past inside

drop_passes : (o : Outcome) → is_drop o ≡ true → passes o ≡ true
drop_passes outcome.NoSocket is = refl
drop_passes outcome.Old is = cc
drop_passes (outcome.Slot slot) is = cc
drop_passes outcome.Ping is = cc
drop_passes outcome.Void is = cc
drop_passes outcome.AckOnly is = cc
drop_passes outcome.Map is = cc
drop_passes outcome.OddMap is = cc

port_0_passes : (o : Outcome) → is_port_0 o ≡ true → passes o ≡ true
port_0_passes outcome.Ping is = refl
port_0_passes outcome.Void is = refl
port_0_passes outcome.NoSocket is = cc
port_0_passes outcome.Old is = cc
port_0_passes (outcome.Slot slot) is = cc
port_0_passes outcome.AckOnly is = cc
port_0_passes outcome.Map is = cc
port_0_passes outcome.OddMap is = cc

pub delivery_passes : (slot : ℕ) (o : Outcome) → is_delivery_to slot o ≡ true → passes o ≡ true
delivery_passes slot (outcome.Slot to) is = refl
delivery_passes slot outcome.NoSocket is = cc
delivery_passes slot outcome.Old is = cc
delivery_passes slot outcome.Ping is = cc
delivery_passes slot outcome.Void is = cc
delivery_passes slot outcome.AckOnly is = cc
delivery_passes slot outcome.Map is = cc
delivery_passes slot outcome.OddMap is = cc

module _ (a b : List Entry) (only : OnlySends a) (accounted : (sport dport : ℕ) → IsAllAccounted sport dport a b) where
  pub each_passed : (n : ℕ) → 0 < n → n ≤ accepted a → was_passed b n ≡ true
  each_passed n least most = go (datagram a n) refl (known_of_number a n least most)
    where
      fate : (d : Accepted) → datagram a n ≡ Some d → was_passed b n ≡ true
      fate d known =
          elim (accounted d.sport d.dport n (listed a n d known)) [
            | inl there ↦ read_passed (is_delivery_to there.slot) (delivery_passes there.slot) d.sport d.dport n b there.listed
            | inr (inl there) ↦ read_passed is_drop drop_passes d.sport d.dport n b there
            | inr (inr (inl there)) ↦ read_passed is_port_0 port_0_passes d.sport d.dport n b there
            | inr (inr (inr gone)) ↦
                let back = All-contains (λ k. was_taken_back a k ≡ true) (filter (was_taken_back a) (accepted_for d.sport d.dport a)) n
                (filter_passes (was_taken_back a) (accepted_for d.sport d.dport a)) gone.0 in
                absurd (false≢true (sym (none_back a only n) ∙ back))
          ]

      go : (o : Option Accepted) → datagram a n ≡ o → is_some (datagram a n) ≡ true → was_passed b n ≡ true
      go None is known = absurd (false≢true (sym (ap is_some is) ∙ known))
      go (Some d) is known = fate d is
