-- What a command adds to what a host's slots have put on their routes at one place, and to the bytes that they have sent.
use Rattle.std.proofs.Common.{◌≡◌, ◌≢◌, inl, inr, ℕ, zero, suc, ◌+◌, ◌<◌, ◌≤◌, ◌==◌, Bool, true, false, cond, Option, Some, None, List, [], ◌∷◌, length, map, slice_get, slice_set, refl, sym, ap, subst, ◌∙◌, arith}
use Rattle.std.specs.Prelude.{All, sum_by}
use Rattle.std.proofs.Math.Nat.{le-min}
use Rattle.std.proofs.lemmas.Bool.{cases_eq, eq-eqb, ne_eqb}
use Rattle.std.proofs.lemmas.List.Elements.{Contains-push}
use Rattle.std.proofs.lemmas.Option.{same_Some, slice_get_within}
use Rattle.rds_wire.specs.declared.kind.TheConstants.{MAX_LENGTH}
use Rattle.rds_model.specs.declared.order.Order.{Order}
use Rattle.rds_model.specs.declared.order.Order.TheVariants as order
use Rattle.rds_fmap.specs.Readers.{HasSeen, IsLook, ReaderView}
use Rattle.rds_fmap.specs.declared.seen.Seen.{Seen}
use Rattle.rds_text.specs.Hosts.{address_of}
use Rattle.rds_script.specs.declared.script.Command.{Command}
use Rattle.rds_socket_parts.specs.Lanes.{IsLaneAt, IsLookTo, IsPutTo, Lane, LeadsTo, peers_of, with_order, with_reader}
use Rattle.rds_socket.specs.declared.error.SendError.{SendError}
use Rattle.rds_socket.specs.declared.error.SendError.TheVariants as refused
use Rattle.rds_socket.specs.Holding.{Holding, Open}
use Rattle.rds_socket.specs.Sends.{IsSent, RefusalFits, limit_of, order_of}
use Rattle.rds_run_callers.specs.Doing.{AtPort, CutsByLast}
use Rattle.rds_run_callers.specs.Places.{Bound, Place, holding_of, with_holding}
use Rattle.rds_run_callers.specs.Tenants.{Asks, ReceivesNext, SendsOrNot}
use Rattle.rds_run_rounds.specs.Grid.{others, peer_at}
use Rattle.rds_run_hosts.proofs.At.{map_at}
use Rattle.rds_run_hosts.proofs.Made.{peer_there, peers_count}
use Rattle.rds_run_threads.proofs.At.{all_at, at_set, beside_set}
use Rattle.rds_run_threads.proofs.Rows.{place_is}
use Rattle.rds_run_laws.specs.Put.{sent_to}
use Rattle.rds_run_laws.specs.Sent.{sent_by}
use Rattle.rds_run_laws.specs.Weights.{Weight, by_length, orders_sum}
use Rattle.rds_run_laws.proofs.Callers.{held_by, put_more, set_sum}
use Rattle.rds_run_laws.proofs.Growing.{look_grows}

either_way : (b : Bool) (n : ℕ) → cond b n n ≡ n
either_way true n = refl
either_way false n = refl

-- the bytes that slots have sent, all together
abbrev pub total_of : List Place → ℕ
total_of places = sum_by (λ (p : Place). (holding_of p).total) places

-- the routes of a host lead to the others of so many, in their order
abbrev pub LeadToOthers : (hosts host : ℕ) → List (Lane ReaderView) → Type 0
LeadToOthers hosts host routes = peers_of routes ≡ map address_of (others hosts host)

module _ (w : Weight) (place : ℕ) where
  abbrev pub lane_weight : Option (Lane ReaderView) → ℕ
  lane_weight None = 0
  lane_weight (Some lane) = orders_sum w lane.pass.put

  -- what was put on the route at the place
  abbrev pub route_weight : List (Lane ReaderView) → ℕ
  route_weight routes = lane_weight (slice_get routes place)

  abbrev pub slot_weight : Place → ℕ
  slot_weight p = route_weight (holding_of p).routes

  -- by all slots
  abbrev pub slots_weight : List Place → ℕ
  slots_weight places = sum_by slot_weight places

  one_route : (old : List (Lane ReaderView)) (i v : ℕ) (was now : Lane ReaderView) → IsLaneAt old i was → orders_sum w now.pass.put ≡ orders_sum w was.pass.put + v →
      route_weight (slice_set old i now) ≡ route_weight old + cond (i == place) v 0
  one_route old i v was now at more =
      elim (cases_eq i place) [
        | inl here ↦
            let stood : slice_get old place ≡ Some was = ap (slice_get old) (sym here) ∙ at in
            let stands : slice_get (slice_set old i now) place ≡ Some now = ap (slice_get (slice_set old i now)) (sym here) ∙ at_set old i now (slice_get_within old i was at) in
            let first = ap lane_weight stood in
            let second = ap lane_weight stands in
            let third = ap (λ (b : Bool). cond b v 0) (eq-eqb i place here) in
            omega (arith, first, second, third, more)
        | inr apart ↦
            let second = ap lane_weight (beside_set old i place now (λ same. apart (sym same))) in
            let third = ap (λ (b : Bool). cond b v 0) (ne_eqb i place apart) in
            omega (arith, second, third)
      ]

  put_to : (peer : ℕ) (item : Order) (old new : List (Lane ReaderView)) → (put : IsPutTo peer item old new) →
      route_weight new ≡ route_weight old + cond (put.0 == place) (orders_sum w (item ∷ [])) 0
  put_to peer item old new (i, leads, (lane, at, is)) =
      ap route_weight is ∙ one_route old i (orders_sum w (item ∷ [])) lane (with_order lane item) at (put_more w lane.pass.put item)

  look_to : (peer port : ℕ) (seen : Seen) (old new : List (Lane ReaderView)) → IsLookTo IsLook peer port seen old new → route_weight new ≡ route_weight old
  look_to peer port seen old new (i, leads, (lane, reader, at, looks, is)) =
      let more = one_route old i 0 lane (with_reader lane reader) at (omega arith) in
      let none = either_way (i == place) 0 in
      let same = ap route_weight is in
      omega (arith, more, none, same)

-- a route at a place leads to the peer that the place stands for
leads_there : (hosts host to i : ℕ) (routes : List (Lane ReaderView)) → LeadToOthers hosts host routes → LeadsTo routes (address_of to) i → to ≡ peer_at host i
leads_there hosts host to i routes others_are (lane, at, is) =
    let count = ap (λ (l : List ℕ). length l) others_are ∙ peers_count hosts host in
    let here : slice_get (peers_of routes) i ≡ Some lane.peer = map_at (λ (l : Lane ReaderView). l.peer) routes i lane at in
    let within = slice_get_within (peers_of routes) i lane.peer here in
    let there = peer_there hosts host i (omega (arith, within, count)) in
    let same : lane.peer ≡ address_of (peer_at host i) = same_Some lane.peer (address_of (peer_at host i)) (sym here ∙ (ap (λ (l : List ℕ). slice_get l i) others_are ∙ there)) in
    omega (arith, same, is)

-- a route that leads to an address
lane_to : (list : List (Lane ReaderView)) (i addr : ℕ) → slice_get (peers_of list) i ≡ Some addr → (lane : Lane ReaderView) × (slice_get list i ≡ Some lane) × (lane.peer ≡ addr)
lane_to [] i addr at = absurd (cc)
lane_to (x ∷ list) zero addr at = (x, refl, same_Some x.peer addr at)
lane_to (x ∷ list) (suc i) addr at = lane_to list i addr at

-- so some route leads to each other host
some_route : (hosts host place : ℕ) (routes : List (Lane ReaderView)) → LeadToOthers hosts host routes → suc place < hosts →
    All (λ (lane : Lane ReaderView). lane.peer ≢ address_of (peer_at host place)) routes → ⊥
some_route hosts host place routes others_are within none =
    let there = peer_there hosts host place (omega (arith, within)) in
    let here : slice_get (peers_of routes) place ≡ Some (address_of (peer_at host place)) = ap (λ (l : List ℕ). slice_get l place) others_are ∙ there in
    let lane = lane_to routes place (address_of (peer_at host place)) here in
    all_at (λ (l : Lane ReaderView). l.peer ≢ address_of (peer_at host place)) routes place lane.0 none lane.1 lane.2

-- A socket of a host sends what its send buffer has room for, to another host, where no look finds the port marked.
module _ (hosts host dport : ℕ) (payload : List ℕ) (o q : Open ReaderView) where
  pub send_succeeds : (place : ℕ) → suc place < hosts → LeadToOthers hosts host o.own.routes → length payload ≤ MAX_LENGTH →
      o.own.total + length payload ≤ o.sndbuf →
      ((i : ℕ) (lane : Lane ReaderView) → IsLaneAt q.own.routes i lane → (seen : Seen) → HasSeen lane.reader dport seen → seen.set ≡ false) →
      SendsOrNot (address_of (peer_at host place)) dport payload o q → IsSent IsLook (address_of (peer_at host place)) dport payload o q
  send_succeeds place within lead short room clear (inl sent) = sent
  send_succeeds place within lead short room clear (inr (e, other, why)) = absurd (go e other why)
    where
      go : (e : SendError) → e ≢ refused.Memory → RefusalFits IsLook (address_of (peer_at host place)) dport payload o e q → ⊥
      go (refused.TooLong len limit) other fits =
          let least : length payload ≤ limit_of o = le-min (omega (arith, room)) short in
          let a = fits.0 in
          let b = fits.1 in
          let c = fits.2 in
          absurd (omega (arith, least, a, b, c))
      go (refused.NoRoute named) other fits = some_route hosts host place o.own.routes lead within fits.2
      go (refused.Congested port version) other fits = marked fits.2
        where
          marked : IsLookTo IsLook (address_of (peer_at host place)) dport (record { version = version; set = true }) o.own.routes q.own.routes → ⊥
          marked (i, leads, (lane, reader, at, (number, more, says), is)) =
              let stands : IsLaneAt q.own.routes i (with_reader lane reader) =
              subst (λ (l : List (Lane ReaderView)). IsLaneAt l i (with_reader lane reader)) (sym is) (at_set o.own.routes i (with_reader lane reader) (slice_get_within o.own.routes i lane at)) in
              let seen : HasSeen reader dport (record { version = version; set = true }) =
              subst (λ (r : ReaderView). HasSeen r dport (record { version = version; set = true })) (sym more) (number, Contains-push lane.reader.found _, says) in
              let none : true ≡ false = clear i (with_reader lane reader) stands (record { version = version; set = true }) seen in
              absurd (cc (none))
      go (refused.SendFull queued len limit) other fits =
          let full = fits.1 in
          let a = full.1 in
          let b = full.2 in
          let c = full.3 in
          let d = full.4 in
          let freed = full.0 in
          absurd (omega (arith, a, b, c, d, room))
      go refused.Memory other fits = other refl

-- what a send that succeeds adds
module _ (hosts host to dport : ℕ) (payload : List ℕ) (o q : Open ReaderView) (lead : LeadToOthers hosts host o.own.routes)
    (sent : IsSent IsLook (address_of to) dport payload o q) where
  pub sent_weight : (w : Weight) (place : ℕ) →
      route_weight w place q.own.routes ≡ route_weight w place o.own.routes + cond (to == peer_at host place) (w o.port dport payload) 0
  sent_weight w place = go sent
    where
      go : IsSent IsLook (address_of to) dport payload o q → route_weight w place q.own.routes ≡ route_weight w place o.own.routes + cond (to == peer_at host place) (w o.port dport payload) 0
      go (routes, freed, clear, fits, put, is) =
          let looked = look_to w place (address_of to) dport (record { version = clear.version; set = false }) o.own.routes routes clear.look in
          let more = put_to w place (address_of to) (order_of o dport payload) routes q.own.routes put in
          let same_peers : peers_of routes ≡ peers_of o.own.routes = (look_grows (address_of to) dport (record { version = clear.version; set = false }) o.own.routes routes clear.look).peers in
          let there = leads_there hosts host to put.0 routes (same_peers ∙ lead) put.1 in
          let either = ap (λ (b : Bool). cond b (w o.port dport payload + 0) 0) (same_test put.0 there) in
          let plain = no_more (to == peer_at host place) in
          omega (arith, looked, more, either, plain)
        where
          no_more : (b : Bool) → cond b (w o.port dport payload + 0) 0 ≡ cond b (w o.port dport payload) 0
          no_more true = omega arith
          no_more false = refl

          same_test : (i : ℕ) → to ≡ peer_at host i → (i == place) ≡ (to == peer_at host place)
          same_test i there =
              elim (cases_eq i place) [
                | inl here ↦ eq-eqb i place here ∙ sym (eq-eqb to (peer_at host place) (there ∙ ap (peer_at host) here))
                | inr apart ↦ ne_eqb i place apart ∙ sym (ne_eqb to (peer_at host place) (λ same. apart (place_is host i place (sym there ∙ same))))
              ]

  pub sent_total : q.own.total ≡ o.own.total + length payload
  sent_total = ap (λ (x : Open ReaderView). x.own.total) sent.5

-- What a command adds to what the slots of a host have put, and to the bytes that they have sent.
pub record Adds (host : ℕ) (c : Command) (old new : List Place) : Type 0 where
  pub weight : (w : Weight) (place : ℕ) → slots_weight w place new ≡ slots_weight w place old + sent_to w host (peer_at host place) c
  pub total : total_of new ≡ total_of old + sent_by by_length c

-- a slot has put and sent as much as before
pub record IsQuiet (p q : Place) : Type 0 where
  pub weight : (w : Weight) (place : ℕ) → slot_weight w place q ≡ slot_weight w place p
  pub total : (holding_of q).total ≡ (holding_of p).total

-- nothing was put or sent
pub record AddsNothing (old new : List Place) : Type 0 where
  pub weight : (w : Weight) (place : ℕ) → slots_weight w place new ≡ slots_weight w place old
  pub total : total_of new ≡ total_of old

pub nothing_done : (old new : List Place) → new ≡ old → AddsNothing old new
nothing_done old new is = record { weight = λ w place. ap (slots_weight w place) is; total = ap total_of is }

pub one_quiet : (old new : List Place) (slot : ℕ) (p q : Place) → slice_get old slot ≡ Some p → IsQuiet p q → new ≡ slice_set old slot q → AddsNothing old new
one_quiet old new slot p q at quiet is = record {
  weight = λ w place.
      let changed = set_sum (slot_weight w place) old slot p q at in
      let same = quiet.weight w place in
      let whole = ap (slots_weight w place) is in
      omega (arith, changed, same, whole);
  total =
      let changed = set_sum (λ (x : Place). (holding_of x).total) old slot p q at in
      let same = quiet.total in
      let whole = ap total_of is in
      omega (arith, changed, same, whole);
}

pub same_routes : (p q : Place) → (holding_of q).routes ≡ (holding_of p).routes → (holding_of q).total ≡ (holding_of p).total → IsQuiet p q
same_routes p q routes total = record { weight = λ w place. ap (route_weight w place) routes; total = total }

pub receives_quietly : (port : ℕ) (old new : List Place) → AtPort port ReceivesNext old new → AddsNothing old new
receives_quietly port old new (inl (slot, o, got, at, called, (p, rel, is))) = one_quiet old new slot (Bound o got) p at (go rel) is
  where
    go : ReceivesNext o got p → IsQuiet (Bound o got) p
    go (inl (item, q, (number, words, receipt, left), now)) =
        subst (IsQuiet (Bound o got)) (sym now)
        (same_routes (Bound o got) (Bound q _) (ap (λ (x : Open ReaderView). x.own.routes) left) (ap (λ (x : Open ReaderView). x.own.total) left))
    go (inr (all, now)) = subst (IsQuiet (Bound o got)) (sym now) (same_routes (Bound o got) (Bound o got) refl refl)
receives_quietly port old new (inr (free, is)) = nothing_done old new is

cut_quietly : (peer : ℕ) (p : Place) (h : Holding ReaderView) → Asks peer order.Cut (holding_of p) h → IsQuiet p (with_holding p h)
cut_quietly peer p h (inl (put, is)) = record {
  weight = λ w place.
      let more = put_to w place peer order.Cut (holding_of p).routes h.routes put in
      let none = either_way (put.0 == place) 0 in
      let held = ap (λ (k : Holding ReaderView). route_weight w place k.routes) (held_by w p h) in
      omega (arith, more, none, held);
  total = ap (λ (k : Holding ReaderView). k.total) (held_by by_length p h) ∙ ap (λ (k : Holding ReaderView). k.total) is;
}
cut_quietly peer p h (inr (none, is)) = record {
  weight = λ w place. ap (λ (k : Holding ReaderView). route_weight w place k.routes) (held_by w p h ∙ is);
  total = ap (λ (k : Holding ReaderView). k.total) (held_by by_length p h ∙ is);
}

pub cuts_quietly : (peer : ℕ) (old new : List Place) → CutsByLast peer old new → AddsNothing old new
cuts_quietly peer old new (inl (slot, p, q, last, at, (h, asks, is), changes)) =
    one_quiet old new slot p q at (subst (IsQuiet p) (sym is) (cut_quietly peer p h asks)) changes
cuts_quietly peer old new (inr (none, is)) = nothing_done old new is
