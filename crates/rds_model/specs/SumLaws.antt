-- Laws, each proved: proofs in other crates use them. Nothing here has to be believed.
-- What a journal adds up to beside its deliveries: how it grows from one moment to a later one, and how large it may get.
use Rattle.std.proofs.Common.{◌≡◌, ℕ, suc, ◌+◌, ◌≤◌, ◌==◌, Option, Some, None, List, [], ◌∷◌, ◌++◌, length, refl, sym, ◌∙◌, ap, append_assoc, length-append, arith}
use Rattle.std.proofs.lemmas.Bool.{cond_both}
use Rattle.std.proofs.lemmas.List.{append-nil}
use Rattle.rds_model.specs.declared.entry.Entry.{Entry}
use Rattle.rds_model.specs.declared.entry.Entry.TheVariants.{Accept, Cancel, Open, Pull, Read, Shut, Bad}
use Rattle.rds_model.specs.declared.entry.Outcome.{Outcome}
use Rattle.rds_model.specs.declared.entry.Outcome.TheVariants as outcome
use Rattle.rds_model.specs.declared.entry.TheConstants.{NO_SLOT}
use Rattle.rds_model.specs.declared.order.Order.{Order}
use Rattle.rds_model.specs.declared.order.Order.TheVariants as order
use Rattle.rds_model.specs.Past.{Moment, now, before, open_stream}
use Rattle.rds_model.specs.Sums.{cancellation, orders, with_map, maps, opens, endings}
use Rattle.rds_model.specs.Honest.{Begins}
use Rattle.rds_model.specs.Legal.{IsLegal}
use Rattle.rds_model.specs.LegalityLaws.{lawful_open, lawful_bad, lawful_shut}

module _ {T : Type 0} where
  pub same_list : (l : List T) → Begins l l
  same_list l = ([], sym (append-nil l))

  pub one_more : (l : List T) (x : T) → Begins l (l ++ x ∷ [])
  one_more l x = (x ∷ [], refl)

  -- a list that each entry leaves or lengthens grows from moment to moment
  pub begins_at : (sum : List Entry → List T) → ((e : Entry) (past : List Entry) → Begins (sum past) (sum (e ∷ past))) →
      {p j : List Entry} → Moment p j → Begins (sum p) (sum j)
  begins_at sum step {p} now = same_list (sum p)
  begins_at sum step {p} (before {e} {j} m) =
      let earlier = begins_at sum step m in
      let last = step e j in
      (earlier.0 ++ last.0, last.1 ∙ ap (λ (l : List T). l ++ last.0) earlier.1 ∙ append_assoc (sum p) earlier.0 last.0)

-- a number that no entry lowers grows from moment to moment
pub rises_at : (sum : List Entry → ℕ) → ((e : Entry) (past : List Entry) → sum past ≤ sum (e ∷ past)) → {p j : List Entry} → Moment p j → sum p ≤ sum j
rises_at sum step now = omega arith
rises_at sum step (before {e} {j} m) = omega (arith, rises_at sum step m, step e j)

orders_step : (e : Entry) (past : List Entry) → Begins (orders past) (orders (e ∷ past))
orders_step (Accept slot sport dport payload) past =
    cond_both (slot == NO_SLOT) (orders past) (orders past ++ order.Send slot sport dport payload ∷ []) (Begins (orders past))
    (λ _. same_list (orders past)) (λ _. one_more (orders past) (order.Send slot sport dport payload))
orders_step (Cancel slot target) past = one_more (orders past) (cancellation slot target)
orders_step _ past = same_list (orders past)

pub orders_grow : {p j : List Entry} → Moment p j → Begins (orders p) (orders j)
orders_grow m = begins_at orders orders_step m

with_map_grows : (o : Outcome) (payload : List ℕ) (earlier : List (List ℕ)) → Begins earlier (with_map o payload earlier)
with_map_grows outcome.Map payload earlier = one_more earlier payload
with_map_grows _ payload earlier = same_list earlier

maps_step : (e : Entry) (past : List Entry) → Begins (maps past) (maps (e ∷ past))
maps_step (Read stream frame outcome) past = with_map_grows outcome frame.payload (maps past)
maps_step _ past = same_list (maps past)

pub maps_grow : {p j : List Entry} → Moment p j → Begins (maps p) (maps j)
maps_grow m = begins_at maps maps_step m

opens_step : (e : Entry) (past : List Entry) → Begins (opens past) (opens (e ∷ past))
opens_step (Open stream) past = one_more (opens past) stream
opens_step _ past = same_list (opens past)

pub opens_grow : {p j : List Entry} → Moment p j → Begins (opens p) (opens j)
opens_grow m = begins_at opens opens_step m

endings_step : (e : Entry) (past : List Entry) → endings past ≤ endings (e ∷ past)
endings_step (Shut stream) past = omega arith
endings_step (Bad stream header cause) past = omega arith
endings_step _ past = omega arith

pub endings_rise : {p j : List Entry} → Moment p j → endings p ≤ endings j
endings_rise m = rises_at endings endings_step m

-- no more orders, maps, streams or deliveries than entries
longer : {T : Type 0} (l : List T) (x : T) (n : ℕ) → length l ≤ n → length (l ++ x ∷ []) ≤ suc n
longer l x n within = omega (arith, length-append l (x ∷ []))

pub few_orders : (past : List Entry) → length (orders past) ≤ length past
few_orders [] = omega arith
few_orders (Accept slot sport dport payload ∷ past) =
    let within = few_orders past in
    cond_both (slot == NO_SLOT) (orders past) (orders past ++ order.Send slot sport dport payload ∷ []) (λ (l : List Order). length l ≤ suc (length past))
    (λ _. omega (arith, within)) (λ _. longer (orders past) (order.Send slot sport dport payload) (length past) within)
few_orders (Cancel slot target ∷ past) = longer (orders past) (cancellation slot target) (length past) (few_orders past)
few_orders (_ ∷ past) = omega (arith, few_orders past)

few_with_map : (o : Outcome) (payload : List ℕ) (earlier : List (List ℕ)) (n : ℕ) → length earlier ≤ n → length (with_map o payload earlier) ≤ suc n
few_with_map outcome.Map payload earlier n within = longer earlier payload n within
few_with_map _ payload earlier n within = omega (arith, within)

pub few_maps : (past : List Entry) → length (maps past) ≤ length past
few_maps [] = omega arith
few_maps (Read stream frame outcome ∷ past) = few_with_map outcome frame.payload (maps past) (length past) (few_maps past)
few_maps (_ ∷ past) = omega (arith, few_maps past)

pub few_opens : (past : List Entry) → length (opens past) ≤ length past
few_opens [] = omega arith
few_opens (Open stream ∷ past) = longer (opens past) stream (length past) (few_opens past)
few_opens (_ ∷ past) = omega (arith, few_opens past)

-- each stream that was opened has ended, but for the one that is open
abbrev pub running : Option ℕ → ℕ
running None = 0
running (Some s) = 1

pub opens_ended : (past : List Entry) → IsLegal past → (o : Option ℕ) → open_stream past ≡ o → length (opens past) ≡ endings past + running o
opens_ended [] legal None is = refl
opens_ended [] legal (Some s) is = cc
opens_ended (Open stream ∷ past) legal None is = cc
opens_ended (Open stream ∷ past) legal (Some s) is =
    omega (arith, length-append (opens past) (stream ∷ []), opens_ended past legal.1 None (lawful_open stream past legal).0)
opens_ended (Shut stream ∷ past) legal None is = omega (arith, opens_ended past legal.1 (Some stream) (lawful_shut stream past legal))
opens_ended (Shut stream ∷ past) legal (Some s) is = cc
opens_ended (Bad stream header found ∷ past) legal None is = omega (arith, opens_ended past legal.1 (Some stream) (lawful_bad stream header found legal now).on)
opens_ended (Bad stream header found ∷ past) legal (Some s) is = cc
opens_ended (Accept slot sport dport payload ∷ past) legal o is = opens_ended past legal.1 o is
opens_ended (Cancel slot target ∷ past) legal o is = opens_ended past legal.1 o is
opens_ended (Pull stream frame ∷ past) legal o is = opens_ended past legal.1 o is
opens_ended (Read stream frame outcome ∷ past) legal o is = opens_ended past legal.1 o is
