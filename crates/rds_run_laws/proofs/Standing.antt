-- How many orders stand in the journal of a host's line.
use Rattle.std.proofs.Common.{◌≡◌, ◌≢◌, ◌+◌, ◌<◌, ◌≤◌, ◌==◌, ℕ, zero, suc, cond, Bool, true, false, List, [], ◌∷◌, ◌++◌, Option, Some, None, inl, inr, filter, length, slice_get, refl, sym, ap, subst, ◌∙◌, arith}
use Rattle.std.proofs.lemmas.Bool.{cases_lt, eqb-true}
use Rattle.rds_model.specs.declared.entry.Entry.{Entry}
use Rattle.rds_model.specs.declared.entry.Entry.TheVariants.{Accept, Bad, Cancel, Open, Pull, Read, Shut}
use Rattle.rds_model.specs.declared.entry.Target.{Target}
use Rattle.rds_model.specs.declared.entry.Target.TheVariants.{Port, All as Every}
use Rattle.rds_model.specs.declared.entry.TheConstants.{NO_SLOT}
use Rattle.rds_model.specs.declared.order.Order.{Order}
use Rattle.rds_model.specs.declared.order.Order.TheVariants as order
use Rattle.rds_model.specs.Honest.{Begins}
use Rattle.rds_model.specs.Sums.{cancellation, orders}
use Rattle.rds_mail.specs.Merging.{by_key, is_key}
use Rattle.rds_fmap.specs.Readers.{ReaderView}
use Rattle.rds_socket_parts.specs.Lanes.{IsLaneAt, Lane}
use Rattle.rds_line.specs.Keeps.{uncut}
use Rattle.rds_host_end.specs.Joined.{orders_of}
use Rattle.rds_host_end.specs.Joins.{slot_of_order}
use Rattle.rds_script.specs.declared.script.Placed.{Placed}
use Rattle.rds_run_callers.specs.Commands.{commander}
use Rattle.rds_run_callers.specs.Places.{Place, holding_of}
use Rattle.rds_run_hosts.specs.Obeyed.{is_host}
use Rattle.rds_run_laws.specs.Few.{is_own, own_commands}
use Rattle.rds_run_laws.proofs.Weighing.{weigh}
use Rattle.rds_run_laws.proofs.At.{either_way, same_number, sum_up}
use Rattle.rds_run_laws.proofs.Asked.{given}
use Rattle.rds_run_laws.proofs.Doing.{HaveAsked}

-- each of these orders is of a slot
abbrev pub HaveSlots : List Order → Type 0
HaveSlots [] = Unit {0}
HaveSlots (x ∷ list) = ((slot : ℕ) × (slot_of_order x ≡ Some slot)) × HaveSlots list

slots_append : (front : List Order) (x : Order) → HaveSlots front → (slot : ℕ) × (slot_of_order x ≡ Some slot) → HaveSlots (front ++ x ∷ [])
slots_append [] x h is = (is, tt)
slots_append (y ∷ front) x h is = (h.0, slots_append front x h.1 is)

of_slot : (slot : ℕ) (target : Target) → (s : ℕ) × (slot_of_order (cancellation slot target) ≡ Some s)
of_slot slot (Port port) = (slot, refl)
of_slot slot Every = (slot, refl)

either_sent : (pong : Bool) (slot sport dport : ℕ) (payload : List ℕ) (list : List Order) → HaveSlots list →
    HaveSlots (cond pong list (list ++ order.Send slot sport dport payload ∷ []))
either_sent true slot sport dport payload list h = h
either_sent false slot sport dport payload list h = slots_append list (order.Send slot sport dport payload) h (slot, refl)

pub have_slots : (past : List Entry) → HaveSlots (orders past)
have_slots [] = tt
have_slots (Accept slot sport dport payload ∷ past) = either_sent (slot == NO_SLOT) slot sport dport payload (orders past) (have_slots past)
have_slots (Cancel slot target ∷ past) = slots_append (orders past) (cancellation slot target) (have_slots past) (of_slot slot target)
have_slots (Open stream ∷ past) = have_slots past
have_slots (Shut stream ∷ past) = have_slots past
have_slots (Bad stream header cause ∷ past) = have_slots past
have_slots (Pull stream frame ∷ past) = have_slots past
have_slots (Read stream frame outcome ∷ past) = have_slots past

-- of an order's slot there is one in the list, and one fewer in the rest
some_there : (x : Order) (list : List Order) (slot : ℕ) → slot_of_order x ≡ Some slot → by_key slot_of_order slot (x ∷ list) ≡ [] → ⊥
some_there x list slot is empty =
    let key : is_key (slot_of_order x) slot ≡ true = ap (λ o. is_key o slot) is ∙ same_number slot in
    let rest = by_key slot_of_order slot list in
    let count : length (by_key slot_of_order slot (x ∷ list)) ≡ suc (length rest) = ap (λ (b : Bool). length (cond b (x ∷ rest) rest)) key in
    let none = ap length empty in
    absurd (omega (arith, count, none))

rest_empty : (x : Order) (list : List Order) (slot : ℕ) → by_key slot_of_order slot (x ∷ list) ≡ [] → by_key slot_of_order slot list ≡ []
rest_empty x list slot empty = go (is_key (slot_of_order x) slot) empty
  where
    rest : List Order
    rest = by_key slot_of_order slot list

    go : (b : Bool) → cond b (x ∷ rest) rest ≡ [] → rest ≡ []
    go true e = absurd (cc)
    go false e = e

module _ (w : Order → ℕ) where
  -- what those of these orders weigh that are of a slot
  abbrev slot_weight : List Order → ℕ → ℕ
  slot_weight list slot = weigh w (by_key slot_of_order slot list)

  no_less : (x : Order) (list : List Order) (slot : ℕ) → slot_weight list slot ≤ slot_weight (x ∷ list) slot
  no_less x list slot = go (is_key (slot_of_order x) slot)
    where
      rest : List Order
      rest = by_key slot_of_order slot list

      go : (b : Bool) → weigh w rest ≤ weigh w (cond b (x ∷ rest) rest)
      go true = omega arith
      go false = omega arith

  is_its_key : (x : Order) (slot : ℕ) → slot_of_order x ≡ Some slot → is_key (slot_of_order x) slot ≡ true
  is_its_key x slot is = ap (λ o. is_key o slot) is ∙ same_number slot

  so_much_more : (x : Order) (list : List Order) (slot : ℕ) → slot_of_order x ≡ Some slot → slot_weight (x ∷ list) slot ≡ w x + slot_weight list slot
  so_much_more x list slot is =
      let rest = by_key slot_of_order slot list in
      ap (λ (b : Bool). weigh w (cond b (x ∷ rest) rest)) (is_its_key x slot is)

  none_less : (x : Order) (list : List Order) (from count : ℕ) → sum_up (slot_weight list) from count ≤ sum_up (slot_weight (x ∷ list)) from count
  none_less x list from zero = omega arith
  none_less x list from (suc count) =
      let first = no_less x list from in
      let rest = none_less x list (suc from) count in
      omega (arith, first, rest)

  grows : (x : Order) (list : List Order) (slot from count : ℕ) → slot_of_order x ≡ Some slot → from ≤ slot → slot < from + count →
      sum_up (slot_weight list) from count + w x ≤ sum_up (slot_weight (x ∷ list)) from count
  grows x list slot from zero is low high = absurd (omega (arith, low, high))
  grows x list slot from (suc count) is low high =
      either_way from slot
      (λ same.
      let first : slot_weight (x ∷ list) from ≡ w x + slot_weight list from = so_much_more x list from (is ∙ ap Some (sym same)) in
      let rest = none_less x list (suc from) count in
      omega (arith, first, rest))
      (λ apart.
      let first = no_less x list from in
      let next : suc from ≤ slot = omega (arith, low, apart) in
      let rest = grows x list slot (suc from) count is next (omega (arith, high)) in
      omega (arith, first, rest))

  -- all are of the first slots where none is of another
  all_weighed : (list : List Order) (count : ℕ) → HaveSlots list → ((slot : ℕ) → count ≤ slot → by_key slot_of_order slot list ≡ []) →
      weigh w list ≤ sum_up (slot_weight list) 0 count
  all_weighed [] count h none = omega arith
  all_weighed (x ∷ list) count h none =
      let slot = h.0.0 in
      let rest : weigh w list ≤ sum_up (slot_weight list) 0 count = all_weighed list count h.1 (λ other beyond. rest_empty x list other (none other beyond)) in
      let low : slot < count = elim (cases_lt slot count) [
        | inl low ↦ low
        | inr high ↦ absurd (some_there x list slot h.0.1 (none slot high))
      ] in
      let next = grows x list slot 0 count h.0.1 (omega arith) (omega (arith, low)) in
      omega (arith, rest, next)

begins_short : (w : Order → ℕ) (front whole : List Order) → Begins front whole → weigh w front ≤ weigh w whole
begins_short w front whole is =
    let long = ap (weigh w) is.1 ∙ weigh_append front is.0 in
    omega (arith, long)
  where
    weigh_append : (xs ys : List Order) → weigh w (xs ++ ys) ≡ weigh w xs + weigh w ys
    weigh_append [] ys = omega arith
    weigh_append (x ∷ xs) ys = let rest = weigh_append xs ys in omega (arith, rest)

module _ (w : Order → ℕ) where
  -- those of slots that were put on their routes weigh no more than what was put there
  of_places : (place : ℕ) (list : List Order) (from n : ℕ) (places : List Place) → HaveAsked w place n places →
      ((i : ℕ) (p : Place) (lane : Lane ReaderView) → slice_get places i ≡ Some p → IsLaneAt (holding_of p).routes place lane →
      slot_weight w list (from + i) ≤ given w lane) →
      sum_up (slot_weight w list) from (length places) ≤ n
  of_places place list from n [] asked each = omega arith
  of_places place list from n (p ∷ places) asked each =
      let few = asked.2.few in
      let first = each 0 p asked.2.lane refl asked.2.at in
      let here : slot_weight w list (from + 0) ≡ slot_weight w list from = ap (slot_weight w list) (let none : from + 0 ≡ from = omega arith in none) in
      let rest = of_places place list (suc from) asked.1 places asked.3 (λ i q lane at at_lane.
      let next : from + suc i ≡ suc from + i = omega arith in
      subst (λ (k : ℕ). slot_weight w list k ≤ given w lane) next (each (suc i) q lane at at_lane)) in
      let sum = asked.4 in
      omega (arith, few, first, here, rest, sum)

  -- so what stands in a journal of orders weighs no more than what its host's slots were asked to put on their routes to its peer
  pub few_standing : (place n : ℕ) (places : List Place) (past : List Entry) → HaveAsked w place n places →
      ((slot : ℕ) (p : Place) (lane : Lane ReaderView) → slice_get places slot ≡ Some p → IsLaneAt (holding_of p).routes place lane →
      Begins (orders_of slot past) (uncut lane.pass.put)) →
      ((slot : ℕ) → length places ≤ slot → orders_of slot past ≡ []) → weigh w (orders past) ≤ n
  few_standing place n places past asked sent none =
      let all = all_weighed w (orders past) (length places) (have_slots past) none in
      let few = of_places place (orders past) 0 n places asked (λ i p lane at at_lane.
      let begin = begins_short w (orders_of i past) (uncut lane.pass.put) (sent i p lane at at_lane) in
      let same : 0 + i ≡ i = omega arith in
      subst (λ (k : ℕ). slot_weight w (orders past) k ≤ given w lane) (sym same) begin) in
      omega (arith, all, few)

-- two hosts have no command in common
pub few_of_two : (host peer : ℕ) (commands : List Placed) → peer ≢ host → own_commands host commands + own_commands peer commands ≤ length commands
few_of_two host peer [] apart = omega arith
few_of_two host peer (placed ∷ commands) apart =
    let rest = few_of_two host peer commands apart in
    at_most (is_own host placed) (is_own peer placed) (filter (is_own host) commands) (filter (is_own peer) commands) placed (length commands)
    (λ one other. apart (own_is peer host (commander placed.command) other one)) rest
  where
    own_is : (a b : ℕ) (by : Option ℕ) → is_host a by ≡ true → is_host b by ≡ true → a ≡ b
    own_is a b None one other = absurd (cc)
    own_is a b (Some c) one other = sym (eqb-true c a one) ∙ eqb-true c b other

    at_most : (a b : Bool) (xs ys : List Placed) (x : Placed) (n : ℕ) → (a ≡ true → b ≡ true → ⊥) → length xs + length ys ≤ n →
        length (cond a (x ∷ xs) xs) + length (cond b (x ∷ ys) ys) ≤ suc n
    at_most true true xs ys x n not_both few = absurd (not_both refl refl)
    at_most true false xs ys x n not_both few = omega (arith, few)
    at_most false true xs ys x n not_both few = omega (arith, few)
    at_most false false xs ys x n not_both few = omega (arith, few)
