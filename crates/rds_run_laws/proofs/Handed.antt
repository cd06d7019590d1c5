-- In a run of a calm script the sockets of a host hand out all that its journals pass.
use Rattle.std.proofs.Common.{◌≡◌, inl, inr, ℕ, suc, ◌+◌, ◌<◌, ◌≤◌, ◌==◌, Bool, true, false, cond, All, Some, List, [], ◌∷◌, ◌++◌, length, map, slice_get, refl, sym, ap, subst, ◌∙◌, arith}
use Rattle.std.specs.Prelude.{Contains, sum_by}
use Rattle.std.proofs.lemmas.Bool.{cases_eq, eq-eqb, eqb-true, ne_eqb}
use Rattle.std.proofs.lemmas.List.{append-nil}
use Rattle.std.proofs.lemmas.List.Elements.{All-head, All-tail}
use Rattle.std.proofs.lemmas.List.Sums.{sum_by-append, sum_by-cons}
use Rattle.std.proofs.lemmas.Option.{same_Some, slice_get_within}
use Rattle.rds_wire.specs.Bytes.{IsBytes}
use Rattle.rds_wire.specs.declared.frame.Frame.{Frame}
use Rattle.rds_wire.specs.declared.kind.TheConstants.{MAP_LENGTH}
use Rattle.rds_model.specs.declared.entry.Entry.{Entry}
use Rattle.rds_model.specs.declared.entry.Entry.TheVariants.{Accept, Cancel, Open, Pull, Read, Shut, Bad}
use Rattle.rds_model.specs.declared.entry.Outcome.{Outcome}
use Rattle.rds_model.specs.declared.entry.Outcome.TheVariants as outcome
use Rattle.rds_model.specs.declared.order.Datagram.{Datagram}
use Rattle.rds_model.specs.Deliveries.{datagram_from, delivered_datagrams}
use Rattle.rds_model.specs.Legal.{IsLegal}
use Rattle.rds_model.specs.Owed.{is_map}
use Rattle.rds_model.specs.Pairs.{is_delivery_to}
use Rattle.rds_model.specs.Past.{Moment, passes}
use Rattle.rds_text.specs.FinalState.{FinalHost, FinalJournal, FinalSocket}
use Rattle.rds_text.specs.Hosts.{address_of}
use Rattle.rds_script.specs.declared.script.Placed.{Placed}
use Rattle.rds_run_callers.specs.Ends.{used_name}
use Rattle.rds_run_callers.specs.Places.{Bound, Ended, Place, Spare, Vacant, holding_of, somes}
use Rattle.rds_run_hosts.proofs.At.{map_at}
use Rattle.rds_run_hosts.proofs.Made.{peer_there}
use Rattle.rds_run_rounds.specs.Grid.{peer_at}
use Rattle.rds_run_threads.specs.Ends.{AreAcknowledged, AreEnds}
use Rattle.rds_run_threads.specs.Outcome.{HandedOutAt, socket_name}
use Rattle.rds_run_threads.specs.Reliable.{AllWentToSockets, HandsOutDelivered, HasReceived, IsWithPeer, all_handed, from_host}
use Rattle.rds_run_threads.proofs.At.{all_at}
use Rattle.rds_run_threads.proofs.Rows.{place_is}
use Rattle.rds_run_laws.specs.Calm.{IsCalm}
use Rattle.rds_run_laws.specs.Sent.{sent_sum}
use Rattle.rds_run_laws.specs.Weights.{Weight, by_length, passed_sum}
use Rattle.rds_run_laws.proofs.Carried.{stands_last}
use Rattle.rds_run_laws.proofs.Growing.{IsLive}
use Rattle.rds_run_laws.proofs.Heard.{goes_to_slot}
use Rattle.rds_run_laws.proofs.Meeting.{side_count}
use Rattle.rds_run_laws.proofs.SumLists.{part_of, sum_mapped, sum_none, sum_once, sum_plus, sum_same, sum_swap}

-- the slots of places that had sockets: each number counts once
module _ (k v : ℕ) where
  abbrev at_slot : ℕ × ℕ → ℕ
  at_slot name = cond (k == name.0) v 0

  names_once : (places : List Place) (from : ℕ) → ((i : ℕ) (p : Place) → slice_get places i ≡ Some p → (holding_of p).words.slot ≡ from + i) →
      (sum_by at_slot (somes (map used_name places)) ≤ v) × (k < from → sum_by at_slot (somes (map used_name places)) ≡ 0)
  names_once [] from numbered = (omega arith, λ less. refl)
  names_once (p ∷ places) from numbered =
      go p (let n = numbered 0 p refl in omega (arith, n))
      (names_once places (suc from) (λ i q at. numbered (suc i) q at ∙ omega arith))
    where
      rest : List (ℕ × ℕ)
      rest = somes (map used_name places)

      one : (slot port : ℕ) → slot ≡ from → (sum_by at_slot rest ≤ v) × (k < suc from → sum_by at_slot rest ≡ 0) →
          (sum_by at_slot ((slot, port) ∷ rest) ≤ v) × (k < from → sum_by at_slot ((slot, port) ∷ rest) ≡ 0)
      one slot port is ih =
          elim (cases_eq k slot) [
            | inl same ↦
                let whole = sum_by-cons at_slot (slot, port) rest in
                let here = ap (λ (b : Bool). cond b v 0) (eq-eqb k slot same) in
                let none = ih.1 (omega (arith, same, is)) in
                (omega (arith, whole, here, none), λ less. absurd (omega (arith, less, same, is)))
            | inr apart ↦
                let whole = sum_by-cons at_slot (slot, port) rest in
                let here = ap (λ (b : Bool). cond b v 0) (ne_eqb k slot apart) in
                let few = ih.0 in
                (omega (arith, whole, here, few), λ less. let none = ih.1 (omega (arith, less)) in omega (arith, whole, here, none))
          ]

      go : (q : Place) → (holding_of q).words.slot ≡ from → (sum_by at_slot rest ≤ v) × (k < suc from → sum_by at_slot rest ≡ 0) →
          (sum_by at_slot (somes (used_name q ∷ map used_name places)) ≤ v) × (k < from → sum_by at_slot (somes (used_name q ∷ map used_name places)) ≡ 0)
      go (Vacant h) is ih = (ih.0, λ less. ih.1 (omega (arith, less)))
      go (Bound o got) is ih = one o.own.words.slot o.port is ih
      go (Ended port h got) is ih = one h.words.slot port is ih
      go (Spare h) is ih = (ih.0, λ less. ih.1 (omega (arith, less)))

module _ (w : (from : ℕ) → Weight) where
  abbrev pub weight_of_datagram : Datagram → ℕ
  weight_of_datagram d = w d.from d.sport d.dport d.payload

  abbrev pub data_sum : List Datagram → ℕ
  data_sum list = sum_by weight_of_datagram list

  -- what is delivered to all sockets is what is passed
  module _ (from : ℕ) (sockets : List FinalSocket) where
    -- the slot is that of one of them
    abbrev IsOneSlot : ℕ → Type 0
    IsOneSlot slot = (v : ℕ) → sum_by (λ (s : FinalSocket). cond (slot == s.slot) v 0) sockets ≡ v

    abbrev to_sockets : List Entry → ℕ
    to_sockets past = sum_by (λ (s : FinalSocket). data_sum (delivered_datagrams from s.slot past)) sockets

    one_more : (b : Bool) (list : List Datagram) (d : Datagram) → data_sum (cond b (list ++ d ∷ []) list) ≡ data_sum list + cond b (weight_of_datagram d) 0
    one_more true list d = let more = sum_by-append weight_of_datagram list (d ∷ []) in let one = sum_by-cons weight_of_datagram d [] in omega (arith, more, one)
    one_more false list d = omega arith

    pub all_delivered : (past : List Entry) →
        ((s : ℕ) (f : Frame) (o : Outcome) → passes o ≡ true → Contains past (Read s f o) → (slot : ℕ) × (o ≡ outcome.Slot slot) × IsOneSlot slot) →
        to_sockets past ≡ passed_sum (w from) past
    all_delivered [] each = sum_none (λ (s : FinalSocket). data_sum []) sockets (λ i s at. refl)
    all_delivered (Read st f o ∷ past) each =
        go (passes o) refl (all_delivered past (λ s g x passed (k, within, is). each s g x passed (suc k, omega (arith, within), is)))
      where
        split : to_sockets (Read st f o ∷ past) ≡ to_sockets past + sum_by (λ (s : FinalSocket). cond (is_delivery_to s.slot o) (weight_of_datagram (datagram_from from f)) 0) sockets
        split =
            sum_same (λ (s : FinalSocket). data_sum (delivered_datagrams from s.slot (Read st f o ∷ past)))
            (λ (s : FinalSocket). data_sum (delivered_datagrams from s.slot past) + cond (is_delivery_to s.slot o) (weight_of_datagram (datagram_from from f)) 0) sockets
            (λ i s at. one_more (is_delivery_to s.slot o) (delivered_datagrams from s.slot past) (datagram_from from f))
            ∙ sum_plus (λ (s : FinalSocket). data_sum (delivered_datagrams from s.slot past))
            (λ (s : FinalSocket). cond (is_delivery_to s.slot o) (weight_of_datagram (datagram_from from f)) 0) sockets

        none_to : (x : Outcome) (slot : ℕ) → passes x ≡ false → is_delivery_to slot x ≡ false
        none_to (outcome.Slot to) slot is = absurd (cc)
        none_to outcome.NoSocket slot is = refl
        none_to outcome.Old slot is = refl
        none_to outcome.Ping slot is = refl
        none_to outcome.Void slot is = refl
        none_to outcome.AckOnly slot is = refl
        none_to outcome.Map slot is = refl
        none_to outcome.OddMap slot is = refl

        go : (b : Bool) → passes o ≡ b → to_sockets past ≡ passed_sum (w from) past →
            to_sockets (Read st f o ∷ past) ≡ cond b (passed_sum (w from) past + w from f.header.sport f.header.dport f.payload) (passed_sum (w from) past)
        go false is ih =
            let whole = split in
            let none = sum_none (λ (s : FinalSocket). cond (is_delivery_to s.slot o) (weight_of_datagram (datagram_from from f)) 0) sockets
            (λ i s at. ap (λ (t : Bool). cond t (weight_of_datagram (datagram_from from f)) 0) (none_to o s.slot is)) in
            omega (arith, whole, none, ih)
        go true is ih =
            let whole = split in
            let to = each st f o is (0, omega arith, refl) in
            let same = ap (λ (x : Outcome). sum_by (λ (s : FinalSocket). cond (is_delivery_to s.slot x) (weight_of_datagram (datagram_from from f)) 0) sockets) to.1 in
            let one = to.2 (weight_of_datagram (datagram_from from f)) in
            omega (arith, whole, same, one, ih)
    all_delivered (Accept slot sport dport payload ∷ past) each = all_delivered past (λ s g x passed (k, within, is). each s g x passed (suc k, omega (arith, within), is))
    all_delivered (Cancel slot target ∷ past) each = all_delivered past (λ s g x passed (k, within, is). each s g x passed (suc k, omega (arith, within), is))
    all_delivered (Open st ∷ past) each = all_delivered past (λ s g x passed (k, within, is). each s g x passed (suc k, omega (arith, within), is))
    all_delivered (Pull st f ∷ past) each = all_delivered past (λ s g x passed (k, within, is). each s g x passed (suc k, omega (arith, within), is))
    all_delivered (Shut st ∷ past) each = all_delivered past (λ s g x passed (k, within, is). each s g x passed (suc k, omega (arith, within), is))
    all_delivered (Bad st h found ∷ past) each = all_delivered past (λ s g x passed (k, within, is). each s g x passed (suc k, omega (arith, within), is))

  -- what a socket handed out is by peer
  module _ (sides : List FinalJournal) (apart : (i j : ℕ) (a b : FinalJournal) → slice_get sides i ≡ Some a → slice_get sides j ≡ Some b → a.peer ≡ b.peer → i ≡ j) where
    pub by_peer : (list : List Datagram) → All (λ (d : Datagram). IsWithPeer sides d.from) list →
        data_sum list ≡ sum_by (λ (side : FinalJournal). data_sum (from_host side.peer list)) sides
    by_peer [] known = sym (sum_none (λ (side : FinalJournal). data_sum []) sides (λ i s at. refl))
    by_peer (d ∷ list) known =
        let rest = by_peer list (All-tail (λ (x : Datagram). IsWithPeer sides x.from) d list known) in
        let here = All-head (λ (x : Datagram). IsWithPeer sides x.from) d list known in
        let whole = sum_by-cons weight_of_datagram d list in
        let split =
        sum_same (λ (side : FinalJournal). data_sum (from_host side.peer (d ∷ list)))
        (λ (side : FinalJournal). data_sum (from_host side.peer list) + cond (d.from == side.peer) (weight_of_datagram d) 0) sides
        (λ i side at. first (d.from == side.peer) (from_host side.peer list))
        ∙ sum_plus (λ (side : FinalJournal). data_sum (from_host side.peer list)) (λ (side : FinalJournal). cond (d.from == side.peer) (weight_of_datagram d) 0) sides in
        let most = sum_once (λ (side : FinalJournal). d.from == side.peer) (weight_of_datagram d) sides
        (λ i j a b at_a at_b one other. apart i j a b at_a at_b (sym (eqb-true d.from a.peer one) ∙ eqb-true d.from b.peer other)) in
        let least = part_of (λ (side : FinalJournal). cond (d.from == side.peer) (weight_of_datagram d) 0) sides here.0 here.1 here.2 in
        let counts = ap (λ (t : Bool). cond t (weight_of_datagram d) 0) (eq-eqb d.from here.1.peer (sym here.3)) in
        omega (arith, rest, whole, split, most, least, counts)
      where
        first : (b : Bool) (xs : List Datagram) → data_sum (cond b (d ∷ xs) xs) ≡ data_sum xs + cond b (weight_of_datagram d) 0
        first true xs = let more = sum_by-cons weight_of_datagram d xs in omega (arith, more)
        first false xs = omega arith

module _ (pulled : (s : ℕ) (f : Frame) (p past : List Entry) → IsLegal past → Moment (Pull s f ∷ p) past → is_map f ≡ true →
    (length f.payload ≡ MAP_LENGTH) × IsBytes f.payload)
    (hosts : ℕ) (commands : List Placed) (ends : List FinalHost) (calm : IsCalm hosts commands) (did : AreEnds true hosts commands ends)
    (acknowledged : AreAcknowledged ends) (host : ℕ) (end : FinalHost) (stands : slice_get ends host ≡ Some end) where
  -- the peer of each of a host's journals
  pub peer_is : (place : ℕ) (side : FinalJournal) → slice_get end.sides place ≡ Some side → side.peer ≡ address_of (peer_at host place)
  peer_is place side at =
      let within = slice_get_within end.sides place side at in
      let count = side_count hosts commands ends did host end stands in
      let there = peer_there hosts host place (omega (arith, within, count)) in
      let here = map_at (λ (s : FinalJournal). s.peer) end.sides place side at in
      same_Some side.peer (address_of (peer_at host place)) (sym here ∙ (ap (λ (l : List ℕ). slice_get l place) (did.peers host end stands) ∙ there))

  peers_apart : (i j : ℕ) (a b : FinalJournal) → slice_get end.sides i ≡ Some a → slice_get end.sides j ≡ Some b → a.peer ≡ b.peer → i ≡ j
  peers_apart i j a b at_a at_b same =
      let one = peer_is i a at_a in
      let other = peer_is j b at_b in
      place_is host i j (omega (arith, one, other, same))

  -- each slot that a datagram went to is that of one socket
  one_slot : (place : ℕ) (side : FinalJournal) → slice_get end.sides place ≡ Some side → (s slot : ℕ) (f : Frame) → Contains side.past (Read s f (outcome.Slot slot)) →
      (v : ℕ) → sum_by (λ (x : FinalSocket). cond (slot == x.slot) v 0) end.sockets ≡ v
  one_slot place side at s slot f inside v =
      let outcome = did.did host end stands in
      let went = all_at (AllWentToSockets end.sockets) end.sides place side outcome.gone at s slot f inside in
      let last = stands_last pulled hosts commands ends calm did acknowledged host end stands in
      let most = (names_once slot v outcome.last 0 (λ i p at_p. last.number i p at_p ∙ omega arith)).0 in
      let named = ap (sum_by (at_slot slot v)) outcome.names in
      let mapped = sum_mapped (at_slot slot v) socket_name end.sockets in
      let least = part_of (λ (x : FinalSocket). cond (slot == x.slot) v 0) end.sockets went.0 went.1 went.2 in
      let counts = ap (λ (t : Bool). cond t v 0) (eq-eqb slot went.1.slot (sym went.3)) in
      omega (arith, most, named, mapped, least, counts)

  -- nothing is left unread
  pub all_read : (i : ℕ) (s : FinalSocket) → slice_get end.sockets i ≡ Some s → s.unread ≡ []
  all_read i s at =
      let outcome = did.did host end stands in
      let last = stands_last pulled hosts commands ends calm did acknowledged host end stands in
      let handed = all_at (λ (x : FinalSocket). (p : Place) × (slice_get outcome.last x.slot ≡ Some p) × HandedOutAt p x) end.sockets i s outcome.handed at in
      go handed.0 (last.live s.slot handed.0 handed.1) handed.2
    where
      go : (p : Place) → IsLive (sent_sum by_length commands) p → HandedOutAt p s → s.unread ≡ []
      go (Vacant h) live handed = absurd handed
      go (Bound o got) live handed = handed.0
      go (Ended port h got) live handed = absurd live
      go (Spare h) live handed = absurd handed

  pub handed_all : (w : (from : ℕ) → Weight) →
      sum_by (λ (s : FinalSocket). data_sum w s.got) end.sockets ≡ sum_by (λ (side : FinalJournal). passed_sum (w side.peer) side.past) end.sides
  handed_all w =
      sum_same (λ (s : FinalSocket). data_sum w s.got) (λ (s : FinalSocket). sum_by (λ (side : FinalJournal). data_sum w (delivered_datagrams side.peer s.slot side.past)) end.sides)
      end.sockets (λ i s at. of_socket i s at)
      ∙ sum_swap (λ (s : FinalSocket) (side : FinalJournal). data_sum w (delivered_datagrams side.peer s.slot side.past)) end.sockets end.sides
      ∙ sum_same (λ (side : FinalJournal). sum_by (λ (s : FinalSocket). data_sum w (delivered_datagrams side.peer s.slot side.past)) end.sockets)
      (λ (side : FinalJournal). passed_sum (w side.peer) side.past) end.sides
      (λ place side at. all_delivered w side.peer end.sockets side.past (λ s f o passed inside. to_slot place side at s f o passed inside))
    where
      of_socket : (i : ℕ) (s : FinalSocket) → slice_get end.sockets i ≡ Some s →
          data_sum w s.got ≡ sum_by (λ (side : FinalJournal). data_sum w (delivered_datagrams side.peer s.slot side.past)) end.sides
      of_socket i s at =
          let received = all_at HasReceived ends host end did.received stands in
          let known = all_at (λ (x : FinalSocket). All (λ (d : Datagram). IsWithPeer end.sides d.from) (all_handed x)) end.sockets i s received.known at in
          let delivered = all_at (λ (x : FinalSocket). All (HandsOutDelivered x) end.sides) end.sockets i s received.delivered at in
          let whole : s.got ≡ all_handed s = sym (ap (λ (l : List Datagram). s.got ++ l) (all_read i s at) ∙ append-nil s.got) in
          ap (data_sum w) whole
          ∙ (by_peer w end.sides peers_apart (all_handed s) known
          ∙ sum_same (λ (side : FinalJournal). data_sum w (from_host side.peer (all_handed s))) (λ (side : FinalJournal). data_sum w (delivered_datagrams side.peer s.slot side.past))
          end.sides (λ j side at_side. ap (data_sum w) (all_at (HandsOutDelivered s) end.sides j side delivered at_side)))

      to_slot : (place : ℕ) (side : FinalJournal) → slice_get end.sides place ≡ Some side → (s : ℕ) (f : Frame) (o : Outcome) → passes o ≡ true → Contains side.past (Read s f o) →
          (slot : ℕ) × (o ≡ outcome.Slot slot) × ((v : ℕ) → sum_by (λ (x : FinalSocket). cond (slot == x.slot) v 0) end.sockets ≡ v)
      to_slot place side at s f o passed inside =
          let to = goes_to_slot pulled hosts commands ends calm did acknowledged host place end side stands at s f o passed inside in
          (to.0, to.1, one_slot place side at s to.0 f (subst (λ (x : Outcome). Contains side.past (Read s f x)) to.1 inside))
