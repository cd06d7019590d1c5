-- In a run of a calm script each journal is ordered to send what the commands say, and passes what they have the peer send.
use Rattle.std.proofs.Common.{◌≡◌, ℕ, suc, ◌+◌, ◌<◌, ◌≤◌, Bool, true, false, cond, nat_lt, All, Option, Some, None, List, [], ◌∷◌, filter, length, slice_get, refl, sym, ap, subst, ◌∙◌, arith}
use Rattle.std.proofs.lemmas.Bool.{ltb-true}
use Rattle.std.proofs.lemmas.Option.{slice_get_within}
use Rattle.rds_wire.specs.Bytes.{IsBytes}
use Rattle.rds_wire.specs.declared.frame.Frame.{Frame}
use Rattle.rds_wire.specs.declared.kind.TheConstants.{MAP_LENGTH}
use Rattle.rds_model.specs.declared.entry.Entry.{Entry}
use Rattle.rds_model.specs.declared.entry.Entry.TheVariants.{Pull}
use Rattle.rds_model.specs.declared.entry.TheConstants.{MAX_SLOTS}
use Rattle.rds_model.specs.Legal.{IsLegal}
use Rattle.rds_model.specs.Owed.{is_map}
use Rattle.rds_model.specs.Past.{Moment, now}
use Rattle.rds_model.specs.Sums.{orders}
use Rattle.rds_fmap.specs.Readers.{ReaderView}
use Rattle.rds_text.specs.FinalState.{FinalHost, FinalJournal}
use Rattle.rds_script.specs.declared.script.Placed.{Placed}
use Rattle.rds_socket_parts.specs.Lanes.{Lane}
use Rattle.rds_run_callers.specs.Places.{Place, holding_of}
use Rattle.rds_run_hosts.specs.Obeyed.{AreNewPlaces, after_binds, is_bind_of, is_host, leading_binds, within_slots}
use Rattle.rds_run_callers.specs.Commands.{commander}
use Rattle.rds_run_rounds.specs.Grid.{peer_at}
use Rattle.rds_run_threads.specs.Ends.{AreAcknowledged, AreEnds}
use Rattle.rds_run_threads.specs.Outcome.{IsOutcome}
use Rattle.rds_run_threads.proofs.At.{all_at}
use Rattle.rds_run_threads.proofs.Rows.{peer_apart}
use Rattle.rds_run_laws.specs.Calm.{CarriesAll, HasBind, IsCalm}
use Rattle.rds_run_laws.specs.Put.{own_sum, sent_between}
use Rattle.rds_run_laws.specs.Sent.{sent_by, sent_sum}
use Rattle.rds_run_laws.specs.Weights.{Weight, by_length, accepted_sum, orders_sum, passed_sum}
use Rattle.rds_run_laws.proofs.Arrivals.{passed_all}
use Rattle.rds_run_laws.proofs.Binding.{IsHeldIn, all_amply_kind, lead, vacancies, vacancy}
use Rattle.rds_run_laws.proofs.Calmly.{fewer_lead, own_after, sent_after}
use Rattle.rds_run_laws.proofs.Clear.{all_clear, back_commands}
use Rattle.rds_run_laws.proofs.Effects.{AddsNothing, LeadToOthers, lane_weight, slot_weight, slots_weight, total_of}
use Rattle.rds_run_laws.proofs.Growing.{AllGrow, HasRoom, IsLive, obeyed_grow}
use Rattle.rds_run_laws.proofs.Harmless.{only_sends}
use Rattle.rds_run_laws.proofs.Meeting.{host_within, meets_at, of_outcome, side_count}
use Rattle.rds_run_laws.proofs.Ordered.{put_is_ordered}
use Rattle.rds_run_laws.proofs.Plain.{each_passed, no_ping, ordered}
use Rattle.rds_run_laws.proofs.SumLists.{sum_none, sum_ones}
use Rattle.rds_run_laws.proofs.Walking.{Stands, all_kind, stands_then, walk}

own_most : (w : Weight) (host : ℕ) (commands : List Placed) → own_sum w host commands ≤ sent_sum w commands
own_most w host [] = omega arith
own_most w host (placed ∷ commands) = go (is_host host (commander placed.command)) (own_most w host commands)
  where
    go : (b : Bool) → own_sum w host commands ≤ sent_sum w commands →
        cond b (sent_by w placed.command) 0 + own_sum w host commands ≤ sent_by w placed.command + sent_sum w commands
    go true less = omega (arith, less)
    go false less = omega (arith, less)

within_least : (n : ℕ) → n ≤ MAX_SLOTS → n ≤ within_slots n
within_least n few = go (nat_lt n 1) refl (nat_lt MAX_SLOTS n)
  where
    go : (a : Bool) → nat_lt n 1 ≡ a → (b : Bool) → n ≤ cond a 1 (cond b MAX_SLOTS n)
    go true low b = let small : n < 1 = ltb-true n 1 low in omega (arith, small)
    go false low true = few
    go false low false = omega arith

-- what is new of a slot
module _ (hosts host : ℕ) (first : List Place) (fresh : AreNewPlaces hosts host first) where
  vacant_all : vacancies first ≡ length first
  vacant_all = sum_ones vacancy first (λ i p at. ap vacancy (fresh i p at).vacant)

  nothing_put : (w : Weight) (place : ℕ) → slots_weight w place first ≡ 0
  nothing_put w place = sum_none (slot_weight w place) first each
    where
      of_lane : (routes : List (Lane ReaderView)) → All (λ (lane : Lane ReaderView). lane.pass.put ≡ []) routes → (o : Option (Lane ReaderView)) →
          slice_get routes place ≡ o → lane_weight w place o ≡ 0
      of_lane routes none None is = refl
      of_lane routes none (Some lane) is = ap (orders_sum w) (all_at (λ (l : Lane ReaderView). l.pass.put ≡ []) routes place lane none is)

      each : (i : ℕ) (p : Place) → slice_get first i ≡ Some p → slot_weight w place p ≡ 0
      each i p at =
          let is = fresh i p at in
          ap (slot_weight w place) is.vacant ∙ of_lane is.holding.routes is.put (slice_get is.holding.routes place) refl

  nothing_sent : total_of first ≡ 0
  nothing_sent = sum_none (λ (p : Place). (holding_of p).total) first
      (λ i p at. ap (λ (x : Place). (holding_of x).total) (fresh i p at).vacant ∙ (fresh i p at).total)

  stands_new : (bytes : ℕ) → Stands hosts host bytes [] first
  stands_new bytes = record {
    lead = λ slot p at. subst (λ (x : Place). LeadToOthers hosts host (holding_of x).routes) (sym (fresh slot p at).vacant) (fresh slot p at).routes;
    room = λ slot p at. subst (HasRoom bytes) (sym (fresh slot p at).vacant) tt;
    number = λ slot p at. ap (λ (x : Place). (holding_of x).words.slot) (fresh slot p at).vacant ∙ (fresh slot p at).number;
    live = λ slot p at. subst (IsLive bytes) (sym (fresh slot p at).vacant) tt;
    held = λ port (p, (k, within, is), binds). absurd (omega (arith, within));
  }

module _ (pulled : (s : ℕ) (f : Frame) (p past : List Entry) → IsLegal past → Moment (Pull s f ∷ p) past → is_map f ≡ true →
    (length f.payload ≡ MAP_LENGTH) × IsBytes f.payload)
    (hosts : ℕ) (commands : List Placed) (ends : List FinalHost) (calm : IsCalm hosts commands) (did : AreEnds true hosts commands ends)
    (acknowledged : AreAcknowledged ends) where
  abbrev bytes : ℕ
  bytes = sent_sum by_length commands

  -- of one host
  module _ (host : ℕ) (end : FinalHost) (stands : slice_get ends host ≡ Some end) where
    abbrev pub outcome : IsOutcome hosts host commands end.sides end.sockets
    outcome = did.did host end stands

    led_all : AddsNothing outcome.done.first outcome.found.led
        × ((port : ℕ) → HasBind host port (leading_binds commands) → IsHeldIn host bytes port outcome.found.led)
    led_all =
        let fresh = outcome.done.new in
        let count = outcome.done.count in
        let vacant = vacant_all hosts host outcome.done.first fresh in
        let few = fewer_lead (is_bind_of host) commands in
        let most = within_least (length (filter (is_bind_of host) commands)) (calm.slots host) in
        lead host bytes (leading_binds commands) outcome.done.first outcome.found.led calm.binds outcome.found.began (omega (arith, count, vacant, few, most))

    pub stands_led : Stands hosts host bytes (leading_binds commands) outcome.found.led
    stands_led =
        let grow = obeyed_grow bytes host (leading_binds commands) outcome.done.first outcome.found.led (all_amply_kind host bytes (leading_binds commands) calm.binds) outcome.found.began in
        let s = stands_then hosts host bytes [] outcome.done.first outcome.found.led grow (stands_new hosts host outcome.done.first outcome.done.new bytes) in
        record { lead = s.lead; room = s.room; number = s.number; live = s.live; held = led_all.1 }

    pub led_grow : AllGrow bytes outcome.found.led outcome.last
    led_grow =
        obeyed_grow bytes host (after_binds commands) outcome.found.led outcome.last (all_kind hosts host bytes (leading_binds commands) (after_binds commands) calm.rest) outcome.found.rest

    pub stands_last : Stands hosts host bytes (leading_binds commands) outcome.last
    stands_last = stands_then hosts host bytes (leading_binds commands) outcome.found.led outcome.last led_grow stands_led

    pub sent_all : (w : Weight) (place : ℕ) (side : FinalJournal) → slice_get end.sides place ≡ Some side →
        orders_sum w (orders side.past) ≡ sent_between w host (peer_at host place) commands
    sent_all w place side at =
        let inside = slice_get_within end.sides place side at in
        let count = side_count hosts commands ends did host end stands in
        let within : suc place < hosts = omega (arith, inside, count) in
        let clear = all_clear hosts commands ends did acknowledged calm pulled host end stands stands_last.lead in
        let own = own_after by_length host commands in
        let most = own_most by_length host commands in
        let none = nothing_sent hosts host outcome.done.first outcome.done.new in
        let quiet = led_all.0.total in
        let walked = walk hosts host bytes (leading_binds commands) (after_binds commands) outcome.found.led outcome.last calm.rest stands_led clear outcome.found.rest
        (omega (arith, own, most, none, quiet)) w place in
        let before = led_all.0.weight w place in
        let nothing = nothing_put hosts host outcome.done.first outcome.done.new w place in
        let after = sent_after w host (peer_at host place) commands in
        let stood = put_is_ordered w place hosts host commands end.sides end.sockets side outcome at within stands_last.lead in
        omega (arith, walked, before, nothing, after, stood)

  -- so much it accepted
  pub accepted_all : (w : Weight) (host place : ℕ) (end : FinalHost) (side : FinalJournal) → slice_get ends host ≡ Some end → slice_get end.sides place ≡ Some side →
      accepted_sum w side.past ≡ sent_between w host (peer_at host place) commands
  accepted_all w host place end side stands at =
      let peer = peer_at host place in
      let m = meets_at hosts commands ends did acknowledged host place end side stands at in
      let back = m.back.past in
      let known = host_within hosts commands ends did host end stands in
      let its = only_sends hosts commands calm peer host back m.known known (λ same. peer_apart host place (sym same)) (back_commands hosts commands ends did acknowledged host place side.past m) in
      let own = only_sends hosts commands calm host peer side.past known m.known (peer_apart host place)
      (of_outcome hosts host place commands end.sides end.sockets side (did.did host end stands) at) in
      ordered w side.past (no_ping back side.past m.met.peers.legal_b m.met.peers.legal_a its m.met.back) side.past now m.met.peers.legal_a own
      ∙ sent_all host end stands w place side at

  pub came_all : (w : Weight) (host place : ℕ) (end : FinalHost) (side : FinalJournal) → slice_get ends host ≡ Some end → slice_get end.sides place ≡ Some side →
      passed_sum w side.past ≡ sent_between w (peer_at host place) host commands
  came_all w host place end side stands at =
      let peer = peer_at host place in
      let m = meets_at hosts commands ends did acknowledged host place end side stands at in
      let back = m.back.past in
      let known = host_within hosts commands ends did host end stands in
      let its = only_sends hosts commands calm peer host back m.known known (λ same. peer_apart host place (sym same)) (back_commands hosts commands ends did acknowledged host place side.past m) in
      passed_all w back side.past m.met.back (each_passed back side.past its m.met.accounted_back)
      ∙ (accepted_all w peer m.turn m.other m.back m.stands m.at ∙ ap (λ (n : ℕ). sent_between w peer n commands) m.there)

  pub carries_all : (host place : ℕ) (end : FinalHost) (side : FinalJournal) → slice_get ends host ≡ Some end → slice_get end.sides place ≡ Some side →
      CarriesAll host (peer_at host place) commands side.past
  carries_all host place end side stands at = record {
    sent = λ w. sent_all host end stands w place side at;
    came = λ w. came_all w host place end side stands at;
  }
