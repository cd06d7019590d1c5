-- What stands in a journal of a host's orders is what its slots put on their routes to that peer.
use Rattle.std.proofs.Common.{◌≡◌, ℕ, zero, suc, ◌+◌, ◌-◌, ◌<◌, ◌≤◌, List, [], ◌∷◌, Some, length, slice_get, refl, sym, ap, ◌∙◌, arith}
use Rattle.std.proofs.lemmas.List.{length-map}
use Rattle.std.proofs.lemmas.List.Sums.{sum_by-cons}
use Rattle.rds_model.specs.declared.entry.Entry.{Entry}
use Rattle.rds_model.specs.declared.order.Order.{Order}
use Rattle.rds_model.specs.declared.order.Order.TheVariants as order
use Rattle.rds_model.specs.Sums.{orders}
use Rattle.rds_fmap.specs.Readers.{ReaderView}
use Rattle.rds_socket_parts.specs.Lanes.{Lane}
use Rattle.rds_line.specs.Keeps.{uncut}
use Rattle.rds_host_end.specs.Joined.{orders_of}
use Rattle.rds_text.specs.FinalState.{FinalJournal, FinalSocket}
use Rattle.rds_script.specs.declared.script.Placed.{Placed}
use Rattle.rds_run_callers.specs.Places.{Place, holding_of}
use Rattle.rds_run_hosts.proofs.Made.{peers_count}
use Rattle.rds_run_threads.specs.Outcome.{IsOutcome}
use Rattle.rds_run_threads.proofs.At.{all_at, some_at}
use Rattle.rds_run_laws.specs.Weights.{Weight, orders_sum, slots_sum}
use Rattle.rds_run_laws.proofs.At.{sum_up}
use Rattle.rds_run_laws.proofs.Effects.{LeadToOthers, lane_weight, slot_weight, slots_weight}
use Rattle.rds_run_laws.proofs.Shares.{sum_up_last}
use Rattle.rds_run_laws.proofs.Slots.{by_slots}

module _ (w : Weight) where
  uncut_sum : (list : List Order) → orders_sum w (uncut list) ≡ orders_sum w list
  uncut_sum [] = refl
  uncut_sum (order.Send slot sport dport payload ∷ list) = let rest = uncut_sum list in omega (arith, rest)
  uncut_sum (order.Cancel slot dport ∷ list) = uncut_sum list
  uncut_sum (order.CloseSocket slot ∷ list) = uncut_sum list
  uncut_sum (order.Cut ∷ list) = uncut_sum list

  abbrev of_slot : List Entry → ℕ → ℕ
  of_slot past slot = orders_sum w (orders_of slot past)

  slots_up : (n : ℕ) (past : List Entry) → slots_sum w n past ≡ sum_up (of_slot past) 0 n
  slots_up zero past = refl
  slots_up (suc n) past =
      let rest = slots_up n past in
      let last = sum_up_last (of_slot past) 0 n in
      let same : of_slot past (0 + n) ≡ of_slot past n = ap (of_slot past) (omega arith) in
      omega (arith, rest, last, same)

  module _ (place : ℕ) where
    places_up : (past : List Entry) (from : ℕ) (places : List Place) →
        ((i : ℕ) (p : Place) → slice_get places i ≡ Some p → of_slot past (from + i) ≡ slot_weight w place p) →
        sum_up (of_slot past) from (length places) ≡ slots_weight w place places
    places_up past from [] each = refl
    places_up past from (p ∷ places) each =
        let first = each 0 p refl in
        let same : of_slot past (from + 0) ≡ of_slot past from = ap (of_slot past) (omega arith) in
        let whole = sum_by-cons (slot_weight w place) p places in
        let rest = places_up past (suc from) places (λ i q at. ap (of_slot past) (let n : suc from + i ≡ from + suc i = omega arith in n) ∙ each (suc i) q at) in
        omega (arith, first, same, whole, rest)

    pub put_is_ordered : (hosts host : ℕ) (commands : List Placed) (sides : List FinalJournal) (sockets : List FinalSocket) (side : FinalJournal) →
        (is : IsOutcome hosts host commands sides sockets) → slice_get sides place ≡ Some side → suc place < hosts →
        ((slot : ℕ) (p : Place) → slice_get is.last slot ≡ Some p → LeadToOthers hosts host (holding_of p).routes) →
        orders_sum w (orders side.past) ≡ slots_weight w place is.last
    put_is_ordered hosts host commands sides sockets side is at within lead =
        let none = all_at (λ (s : FinalJournal). (slot : ℕ) → length is.last ≤ slot → orders_of slot s.past ≡ []) sides place side is.none_else at in
        let all = by_slots w (length is.last) side.past none in
        let up = slots_up (length is.last) side.past in
        let same = places_up side.past 0 is.last (λ slot p at_p. here slot p at_p) in
        omega (arith, all, up, same)
      where
        here : (slot : ℕ) (p : Place) → slice_get is.last slot ≡ Some p → of_slot side.past (0 + slot) ≡ slot_weight w place p
        here slot p at_p =
            let routes = (holding_of p).routes in
            let count : length routes ≡ hosts - 1 =
            sym (length-map routes (λ (l : Lane ReaderView). l.peer)) ∙ (ap (λ (l : List ℕ). length l) (lead slot p at_p) ∙ peers_count hosts host) in
            let lane = some_at routes place (omega (arith, count, within)) in
            let sent = is.sent slot place p lane.0 side at_p lane.1 at in
            ap (of_slot side.past) (let n : 0 + slot ≡ slot = omega arith in n)
            ∙ (ap (orders_sum w) sent ∙ (uncut_sum lane.0.pass.put ∙ sym (ap (lane_weight w place) lane.1)))
