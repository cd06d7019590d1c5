-- The orders of a journal, slot by slot.
use Rattle.std.proofs.Common.{◌≡◌, ◌≢◌, ◌⊎◌, inl, inr, ℕ, zero, suc, ◌+◌, ◌<◌, ◌≤◌, ◌==◌, Bool, true, false, cond, List, [], ◌∷◌, refl, ap, ◌∙◌, arith}
use Rattle.std.proofs.lemmas.Bool.{cases_eq, cases_lt, cond-true, eq-eqb, ne_eqb}
use Rattle.rds_model.specs.declared.entry.Entry.{Entry}
use Rattle.rds_model.specs.declared.order.Order.{Order}
use Rattle.rds_model.specs.declared.order.Order.TheVariants as order
use Rattle.rds_model.specs.Sums.{orders}
use Rattle.rds_mail.specs.Merging.{by_key, is_key}
use Rattle.rds_host_end.specs.Joins.{slot_of_order}
use Rattle.rds_host_end.specs.Joined.{orders_of}
use Rattle.rds_run_laws.specs.Weights.{Weight, orders_sum, slots_sum}

module _ (w : Weight) where
  -- of the orders of the slots below a number in a list
  abbrev below : ℕ → List Order → ℕ
  below zero xs = 0
  below (suc n) xs = below n xs + orders_sum w (by_key slot_of_order n xs)

  below_none : (n : ℕ) → below n [] ≡ 0
  below_none zero = refl
  below_none (suc n) = let ih = below_none n in omega (arith, ih)

  -- an order that sends nothing adds nothing
  below_same : (x : Order) (xs : List Order) → ((list : List Order) → orders_sum w (x ∷ list) ≡ orders_sum w list) → (n : ℕ) → below n (x ∷ xs) ≡ below n xs
  below_same x xs adds zero = refl
  below_same x xs adds (suc n) =
      let ih = below_same x xs adds n in
      let here = kept (is_key (slot_of_order x) n) (by_key slot_of_order n xs) in
      omega (arith, ih, here)
    where
      kept : (b : Bool) (list : List Order) → orders_sum w (cond b (x ∷ list) list) ≡ orders_sum w list
      kept true list = adds list
      kept false list = refl

  -- a datagram adds its weight at its own slot
  below_send : (slot sport dport : ℕ) (payload : List ℕ) (xs : List Order) (n : ℕ) →
      (slot < n → below n (order.Send slot sport dport payload ∷ xs) ≡ below n xs + w sport dport payload)
      × (n ≤ slot → below n (order.Send slot sport dport payload ∷ xs) ≡ below n xs)
  below_send slot sport dport payload xs zero = (λ less. absurd (omega (arith, less)), λ least. refl)
  below_send slot sport dport payload xs (suc n) = go (cases_eq slot n) (below_send slot sport dport payload xs n)
    where
      x : Order
      x = order.Send slot sport dport payload

      list : List Order
      list = by_key slot_of_order n xs

      go : (slot ≡ n) ⊎ (slot ≢ n) → (slot < n → below n (x ∷ xs) ≡ below n xs + w sport dport payload) × (n ≤ slot → below n (x ∷ xs) ≡ below n xs) →
          (slot < suc n → below n (x ∷ xs) + orders_sum w (cond (slot == n) (x ∷ list) list) ≡ below n xs + orders_sum w list + w sport dport payload)
          × (suc n ≤ slot → below n (x ∷ xs) + orders_sum w (cond (slot == n) (x ∷ list) list) ≡ below n xs + orders_sum w list)
      go (inl is) ih =
          let here : orders_sum w (cond (slot == n) (x ∷ list) list) ≡ w sport dport payload + orders_sum w list =
          ap (λ (b : Bool). orders_sum w (cond b (x ∷ list) list)) (eq-eqb slot n is) in
          let before = ih.1 (omega (arith, is)) in
          (λ less. omega (arith, here, before), λ least. absurd (omega (arith, is, least)))
      go (inr other) ih =
          let here : orders_sum w (cond (slot == n) (x ∷ list) list) ≡ orders_sum w list =
          ap (λ (b : Bool). orders_sum w (cond b (x ∷ list) list)) (ne_eqb slot n other) in (
            λ less. (let before = ih.0 (omega (arith, less, other)) in omega (arith, here, before)),
            λ least. (let before = ih.1 (omega (arith, least)) in omega (arith, here, before)),
          )

  -- no slot from the number on has an order
  abbrev NoneFrom : ℕ → List Order → Type 0
  NoneFrom n xs = (slot : ℕ) → n ≤ slot → by_key slot_of_order slot xs ≡ []

  none_later : (n : ℕ) (x : Order) (xs : List Order) → NoneFrom n (x ∷ xs) → NoneFrom n xs
  none_later n x xs none slot least = go (is_key (slot_of_order x) slot) (none slot least)
    where
      go : (b : Bool) → cond b (x ∷ by_key slot_of_order slot xs) (by_key slot_of_order slot xs) ≡ [] → by_key slot_of_order slot xs ≡ []
      go true is = cc
      go false is = is

  all_below : (n : ℕ) (xs : List Order) → NoneFrom n xs → below n xs ≡ orders_sum w xs
  all_below n [] none = below_none n
  all_below n (order.Send slot sport dport payload ∷ xs) none =
      elim (cases_lt slot n) [
        | inl within ↦
            let ih = all_below n xs (none_later n (order.Send slot sport dport payload) xs none) in
            let more = (below_send slot sport dport payload xs n).0 within in
            omega (arith, ih, more)
        | inr least ↦
            let list = by_key slot_of_order slot xs in
            let kept : cond (slot == slot) (order.Send slot sport dport payload ∷ list) list ≡ order.Send slot sport dport payload ∷ list =
            cond-true (slot == slot) (order.Send slot sport dport payload ∷ list) list (eq-eqb slot slot refl) in
            let empty = none slot least in
            absurd (cc (kept, empty))
      ]
  all_below n (order.Cancel s t ∷ xs) none = below_same (order.Cancel s t) xs (λ list. refl) n ∙ all_below n xs (none_later n (order.Cancel s t) xs none)
  all_below n (order.CloseSocket s ∷ xs) none = below_same (order.CloseSocket s) xs (λ list. refl) n ∙ all_below n xs (none_later n (order.CloseSocket s) xs none)
  all_below n (order.Cut ∷ xs) none = below_same order.Cut xs (λ list. refl) n ∙ all_below n xs (none_later n order.Cut xs none)

  slots_are : (n : ℕ) (past : List Entry) → slots_sum w n past ≡ below n (orders past)
  slots_are zero past = refl
  slots_are (suc n) past = ap (λ (k : ℕ). k + orders_sum w (orders_of n past)) (slots_are n past)

  pub by_slots : (n : ℕ) (past : List Entry) → NoneFrom n (orders past) → slots_sum w n past ≡ orders_sum w (orders past)
  by_slots n past none = slots_are n past ∙ all_below n (orders past) none
