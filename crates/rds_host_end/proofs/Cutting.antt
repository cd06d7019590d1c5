-- The cuts that slots asked for were got, and those that were got were done.
use Rattle.std.proofs.Common.{◌≡◌, ◌⊎◌, ◌<◌, ◌≤◌, ◌+◌, ◌==◌, inl, inr, ⊎_elim, ℕ, zero, suc, Bool, true, false, All, List, [], ◌∷◌, ◌++◌, Some, None, Contains, length, slice_get, cond, refl, sym, ap, subst, ◌∙◌, arith}
use Rattle.std.proofs.lemmas.Bool.{cond-false, eqb-true, false≢true}
use Rattle.std.proofs.lemmas.List.{length-map, take_all}
use Rattle.rds_link.specs.Ends.{Means}
use Rattle.rds_model.specs.declared.order.Order.{Order}
use Rattle.rds_model.specs.declared.order.Order.TheVariants as order
use Rattle.rds_mail.specs.declared.view.Account.{Account}
use Rattle.rds_mail.specs.Numbers.{Number, Numbered, bare_items, items_of, same_number}
use Rattle.rds_mail.specs.Passes.{Putter}
use Rattle.rds_mail.specs.Shared.{IsPart}
use Rattle.rds_seats.specs.Views.{Each}
use Rattle.rds_socket_parts.specs.Lanes.{IsLaneAt, Lane}
use Rattle.rds_socket.specs.Holding.{Holding}
use Rattle.rds_line_channel.specs.Streams.{newest_place, numbers}
use Rattle.rds_line_channel.specs.Carried.{IsCarriedBy, cuts_of_streams, shuts}
use Rattle.rds_line_channel.specs.CutLaws.{shut_for_each}
use Rattle.rds_line.specs.Keeps.{KeepsLine, cuts_among}
use Rattle.rds_line.specs.Line.{LineView, line_past}
use Rattle.rds_host.specs.Passes.{AreAllPasses, putter_number}
use Rattle.rds_host.specs.Telling.{IsTold}
use Rattle.rds_host_end.proofs.Marks.{place_of}
use Rattle.rds_host_end.proofs.Places.{all_at}
use Rattle.rds_host_end.specs.Cuts.{AreCutsOfSlots, HasCut, cuts_on, cuts_put}

-- the cuts of a longer list are no fewer
cuts_begin : (front rest : List Order) → cuts_among front ≤ cuts_among (front ++ rest)
cuts_begin [] rest = omega arith
cuts_begin (order.Cut ∷ front) rest = let less = cuts_begin front rest in omega (arith, less)
cuts_begin (order.Send slot sport dport payload ∷ front) rest = cuts_begin front rest
cuts_begin (order.Cancel slot dport ∷ front) rest = cuts_begin front rest
cuts_begin (order.CloseSocket slot ∷ front) rest = cuts_begin front rest

-- and those of one more order are its own beside them
cuts_more : (o : Order) (list : List Order) → cuts_among (o ∷ list) ≡ cuts_among (o ∷ []) + cuts_among list
cuts_more order.Cut list = omega arith
cuts_more (order.Send slot sport dport payload) list = omega arith
cuts_more (order.Cancel slot dport) list = omega arith
cuts_more (order.CloseSocket slot) list = omega arith

-- the number of a place is that of no other place
number_place : (i : ℕ) (p : Number) → same_number (putter_number i) p ≡ true → place_of p ≡ i
number_place zero [] is = refl
number_place zero (k ∷ p) is = absurd (false≢true is)
number_place (suc i) [] is = absurd (false≢true is)
number_place (suc i) (k ∷ p) is = ap suc (sym (eqb-true i k (first_true (i == k) (same_number [] p) is)))
  where
    first_true : (a b : Bool) → cond a b false ≡ true → a ≡ true
    first_true true b is = refl
    first_true false b is = absurd (false≢true is)

-- the cuts of so many putters, from the one of a place on
abbrev cuts_from : (from count : ℕ) → List (Numbered Order) → ℕ
cuts_from from zero got = 0
cuts_from from (suc count) got = cuts_among (items_of (putter_number from) got) + cuts_from (suc from) count got

-- an item of an earlier place adds none
none_more : (from count : ℕ) (e : Numbered Order) (got : List (Numbered Order)) → place_of e.0 < from → cuts_from from count (e ∷ got) ≡ cuts_from from count got
none_more from zero e got less = refl
none_more from (suc count) e got less =
    let here = go (same_number (putter_number from) e.0) refl in
    let rest = none_more (suc from) count e got (omega (arith, less)) in
    omega (arith, here, rest)
  where
    go : (b : Bool) → same_number (putter_number from) e.0 ≡ b →
        cuts_among (cond b (e.1 ∷ items_of (putter_number from) got) (items_of (putter_number from) got)) ≡ cuts_among (items_of (putter_number from) got)
    go true is = absurd (let at = number_place from e.0 is in omega (arith, at, less))
    go false is = refl

-- an item adds its cuts to one putter at most
once_more : (from count : ℕ) (e : Numbered Order) (got : List (Numbered Order)) →
    cuts_from from count (e ∷ got) ≤ cuts_among (e.1 ∷ []) + cuts_from from count got
once_more from zero e got = omega arith
once_more from (suc count) e got = go (once_more (suc from) count e got) (same_number (putter_number from) e.0) refl
  where
    go : cuts_from (suc from) count (e ∷ got) ≤ cuts_among (e.1 ∷ []) + cuts_from (suc from) count got → (b : Bool) → same_number (putter_number from) e.0 ≡ b →
        cuts_among (cond b (e.1 ∷ items_of (putter_number from) got) (items_of (putter_number from) got)) + cuts_from (suc from) count (e ∷ got)
        ≤ cuts_among (e.1 ∷ []) + (cuts_among (items_of (putter_number from) got) + cuts_from (suc from) count got)
    go rest true is =
        let at = number_place from e.0 is in
        let more = cuts_more e.1 (items_of (putter_number from) got) in
        let same = none_more (suc from) count e got (omega (arith, at)) in
        omega (arith, more, same)
    go rest false is = omega (arith, rest)

none_got : (from count : ℕ) → cuts_from from count [] ≡ 0
none_got from zero = refl
none_got from (suc count) = let rest = none_got (suc from) count in omega (arith, rest)

-- so all putters together have no more cuts than were got
cuts_of_all : (from count : ℕ) (got : List (Numbered Order)) → cuts_from from count got ≤ cuts_among (bare_items got)
cuts_of_all from count [] = let none = none_got from count in omega (arith, none)
cuts_of_all from count (e ∷ got) =
    let once = once_more from count e got in
    let rest = cuts_of_all from count got in
    let more = cuts_more e.1 (bare_items got) in
    omega (arith, once, rest, more)

-- all cuts of a putter were got, where the getter was told of what it has put and got that
cuts_got : (got : List (Numbered Order)) (told : List (Account Order)) (put : Putter Order) → Each told (IsPart got) → IsTold told put →
    cuts_among put.put ≤ cuts_among (items_of put.number got)
cuts_got got told put parts is =
    let part = parts is.0 is.1 is.2 in
    let begin = cuts_begin is.1.put part.0 in
    let whole = ap cuts_among part.1 in
    let same = ap cuts_among is.3.1 in
    let number = ap (λ (n : Number). cuts_among (items_of n got)) is.3.0 in
    omega (arith, begin, whole, same, number)

module _ {R : Type 0} where
  -- what is no less than the cuts of the route at a place, if there is one
  lane_cuts : (routes : List (Lane R)) (place n : ℕ) → ((lane : Lane R) → IsLaneAt routes place lane → cuts_among lane.pass.put ≤ n) → cuts_on routes place ≤ n
  lane_cuts [] place n each = omega arith
  lane_cuts (lane ∷ routes) zero n each = each lane refl
  lane_cuts (lane ∷ routes) (suc place) n each = lane_cuts routes place n each

  -- the cuts of slots, the first of which has the putter of a place
  slots_cuts : (place from : ℕ) (got : List (Numbered Order)) (slots : List (Holding R)) →
      ((slot : ℕ) (h : Holding R) → slice_get slots slot ≡ Some h → cuts_on h.routes place ≤ cuts_among (items_of (putter_number (from + slot)) got)) →
      cuts_put place slots ≤ cuts_from from (length slots) got
  slots_cuts place from got [] each = omega arith
  slots_cuts place from got (h ∷ slots) each =
      let same : from + 0 ≡ from = omega arith in
      let first = subst (λ (i : ℕ). cuts_on h.routes place ≤ cuts_among (items_of (putter_number i) got)) same (each 0 h refl) in
      let rest = slots_cuts place (suc from) got slots (λ slot k at.
      let next : from + suc slot ≡ suc from + slot = omega arith in
      subst (λ (i : ℕ). cuts_on k.routes place ≤ cuts_among (items_of (putter_number i) got)) next (each (suc slot) k at)) in
      omega (arith, first, rest)

-- some cut came too late, or each found a stream open
late_or_none : (cuts : List ℕ) → Contains cuts 0 ⊎ (cuts_of_streams cuts ≡ length cuts)
late_or_none [] = inr refl
late_or_none (zero ∷ cuts) = inl (0, omega arith, refl)
late_or_none (suc number ∷ cuts) =
    ⊎_elim (λ late. inl (suc late.0, let small = late.1 in omega arith, late.2)) (λ all. inr (ap suc all)) (late_or_none cuts)

module _ {E M : Type 0} where
  -- each cut that was got shut a stream, or it came too late, when no stream was left
  pub cut_of : (m : Means E) (published : M → List (List ℕ)) (line : LineView E M) (arrived out : List ℕ) → KeepsLine published line →
      IsCarriedBy m (line_past line) arrived out line.channel.streams line.channel.cuts.numbers → HasCut line
  cut_of m published line arrived out keeps carried =
      let streams = line.channel.streams in
      ⊎_elim
      (λ (zero : Contains line.channel.cuts.numbers 0).
      let late = carried.late zero in
      let all = late.1 in
      let count = length-map streams.list (λ stream. stream.0) in
      inr (
        sym carried.opened ∙ take_all streams.opened (numbers streams.list) (omega (arith, all, count)),
        sym carried.current ∙ cond-false streams.is_open (slice_get (numbers streams.list) (newest_place streams)) None late.0,
      ))
      (λ (same : cuts_of_streams line.channel.cuts.numbers ≡ length line.channel.cuts.numbers).
      let shut = shut_for_each carried in
      let cuts = keeps.cuts in
      inl (omega (arith, same, shut, cuts)))
      (late_or_none line.channel.cuts.numbers)

module _ {R E M : Type 0} where
  -- the cuts that all slots together asked for were done
  pub cuts_of_slots : (slots : List (Holding R)) (lines : List (LineView E M)) → AreAllPasses slots lines → All HasCut lines → AreCutsOfSlots slots lines
  cuts_of_slots slots lines passes all place line at_line got told =
      let few = slots_cuts place 0 line.orders.got slots (λ slot h at_slot.
      let same : slot ≡ 0 + slot = omega arith in
      lane_cuts h.routes place (cuts_among (items_of (putter_number (0 + slot)) line.orders.got)) (λ lane at_lane.
      subst (λ (i : ℕ). cuts_among lane.pass.put ≤ cuts_among (items_of (putter_number i) line.orders.got)) same
      (subst (λ (n : Number). cuts_among lane.pass.put ≤ cuts_among (items_of n line.orders.got)) (passes.orders slot place h lane at_slot at_lane).0
      (cuts_got line.orders.got line.orders.told lane.pass got.told (told slot h lane at_slot at_lane))))) in
      let whole = cuts_of_all 0 (length slots) line.orders.got in
      ⊎_elim
      (λ (shut : cuts_among (bare_items line.orders.got) ≤ shuts (line_past line)). inl (omega (arith, few, whole, shut)))
      (λ used. inr used)
      (all_at HasCut lines line place all at_line)
