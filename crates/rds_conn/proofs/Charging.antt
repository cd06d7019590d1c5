-- What is charged to the slots: the bytes of their messages, and those that are freed and held.
use Rattle.std.proofs.Common.{◌≡◌, ◌≢◌, inl, inr, ℕ, ◌+◌, ◌-◌, ◌<◌, ◌≤◌, ◌==◌, not, cond, List, [], ◌∷◌, ◌++◌, length, sum, get_or, refl, sym, ◌∙◌, ap, arith, get_or-set_same, get_or-set_other}
use Rattle.std.specs.Prelude.{slice_set}
use Rattle.std.proofs.lemmas.Bool.{cases_eq, cases_lt, ne_eqb, eq-eqb, cond-true, cond-false}
use Rattle.std.proofs.lemmas.List.{length-set, set_past}
use Rattle.std.proofs.lemmas.List.Sums.{sum_by-set, get_or-le-sum_by}
use Rattle.std.proofs.lemmas.List.Filters.{sum_by-filter_both}
use Rattle.rds_model.specs.declared.entry.Msg.{Msg}
use Rattle.rds_msgs.specs.Messages.{StoreView, bytes_of}
use Rattle.rds_conn.specs.Freeing.{with_freed, bytes_of_slot, Frees}
use Rattle.rds_conn.specs.Invariant.{IsCharged}
use Rattle.rds_conn.proofs.Totals.{total-append, total-cons}

-- freed bytes of a slot, and of the others
pub freed_same : (slot bytes : ℕ) (freed : List ℕ) → slot < length freed → get_or (with_freed slot bytes freed) slot 0 ≡ get_or freed slot 0 + bytes
freed_same slot bytes freed within = get_or-set_same freed slot (get_or freed slot 0 + bytes) 0 within

pub freed_other : (slot s bytes : ℕ) (freed : List ℕ) → s ≢ slot → get_or (with_freed slot bytes freed) s 0 ≡ get_or freed s 0
freed_other slot s bytes freed other = get_or-set_other freed slot s (get_or freed slot 0 + bytes) 0 other

pub length-with_freed : (slot bytes : ℕ) (freed : List ℕ) → length (with_freed slot bytes freed) ≡ length freed
length-with_freed slot bytes freed = length-set freed slot (get_or freed slot 0 + bytes)

pub sum-with_freed : (slot bytes : ℕ) (freed : List ℕ) → sum (with_freed slot bytes freed) ≤ sum freed + bytes
sum-with_freed slot bytes freed =
    elim (cases_lt slot (length freed)) [
      | inl within ↦ (let more = sum_by-set (λ x. x) freed slot (get_or freed slot 0 + bytes) 0 within in omega (arith, more))
      | inr past ↦ (let same = ap sum (set_past freed slot (get_or freed slot 0 + bytes) past) in omega (arith, same))
    ]

-- a message more, behind all others
pub left_after : (s : ℕ) (m : Msg) (ms : List Msg) → bytes_of_slot s (ms ++ m ∷ []) ≡ bytes_of_slot s ms + cond (m.slot == s) m.len 0
left_after s m ms =
    let both = total-append (λ (x : Msg). x.len) (λ x. x.slot == s) ms (m ∷ []) in
    let one = total-cons (λ (x : Msg). x.len) (λ x. x.slot == s) m [] in
    omega (arith, both, one)

-- the messages of a slot have no more bytes than all
pub left_within : (s : ℕ) (ms : List Msg) → bytes_of_slot s ms ≤ bytes_of ms
left_within s ms =
    let both = sum_by-filter_both (λ (m : Msg). m.slot == s) (λ m. not (m.slot == s)) (λ m. refl) (λ (m : Msg). m.len) ms in
    omega (arith, both)

-- no more is charged to a slot than all that is freed and left
pub charge_within : (ms : List Msg) (freed charges : List ℕ) (slots s : ℕ) → length freed ≡ slots → s < slots → IsCharged ms freed charges slots →
    get_or charges s 0 ≤ sum freed + bytes_of ms
charge_within ms freed charges slots s wide within is =
    let each = is.each s within in
    let one = get_or-le-sum_by (λ x. x) freed s 0 (omega (arith, wide, within)) in
    let left = left_within s ms in
    omega (arith, each, one, left)

-- a datagram of a slot is charged to it
pub charged_after_accept : (m : Msg) (ms : List Msg) (freed charges : List ℕ) (slots : ℕ) → m.slot < slots → IsCharged ms freed charges slots →
    IsCharged (ms ++ m ∷ []) freed (with_freed m.slot m.len charges) slots
charged_after_accept m ms freed charges slots own is = record {
  wide = length-with_freed m.slot m.len charges ∙ is.wide;
  each = λ s within.
      let each = is.each s within in
      let more = left_after s m ms in
      elim (cases_eq m.slot s) [
        | inl same ↦
            let one = cond-true (m.slot == s) m.len 0 (eq-eqb m.slot s same) in
            let wide = is.wide in
            let here = ap (λ x. get_or (with_freed m.slot m.len charges) x 0) (sym same) ∙ freed_same m.slot m.len charges (omega (arith, wide, own)) in
            let there = ap (λ x. get_or charges x 0) same in
            omega (arith, each, more, one, here, there)
        | inr other ↦
            let one = cond-false (m.slot == s) m.len 0 (ne_eqb m.slot s other) in
            let here = freed_other m.slot s m.len charges (λ e. other (sym e)) in
            omega (arith, each, more, one, here)
      ];
}

-- a datagram without bytes is charged to none
pub charged_after_pong : (m : Msg) (ms : List Msg) (freed charges : List ℕ) (slots : ℕ) → m.len ≡ 0 → IsCharged ms freed charges slots →
    IsCharged (ms ++ m ∷ []) freed charges slots
charged_after_pong m ms freed charges slots empty is = record {
  wide = is.wide;
  each = λ s within.
      let each = is.each s within in
      let more = left_after s m ms in
      elim (cases_eq m.slot s) [
        | inl same ↦ (let one = cond-true (m.slot == s) m.len 0 (eq-eqb m.slot s same) in omega (arith, each, more, one, empty))
        | inr other ↦ (let one = cond-false (m.slot == s) m.len 0 (ne_eqb m.slot s other) in omega (arith, each, more, one))
      ];
}

-- what is freed stays charged until it is handed out
pub charged_after : (store store_later : StoreView) (freed freed_later charges : List ℕ) (slots : ℕ) → length freed ≡ slots →
    Frees store store_later freed freed_later → IsCharged store.messages freed charges slots →
    IsCharged store_later.messages freed_later charges slots
charged_after store store_later freed freed_later charges slots wide frees is = record {
  wide = is.wide;
  each = λ s within.
      let inside : s < length freed = omega (arith, wide, within) in
      is.each s within ∙ sym (frees.each s inside);
}

-- bytes of a slot are handed out
pub charged_after_taken : (ms : List Msg) (freed charges : List ℕ) (slots slot bytes : ℕ) → length freed ≡ slots → slot < slots →
    bytes ≤ get_or freed slot 0 → IsCharged ms freed charges slots →
    IsCharged ms (slice_set freed slot (get_or freed slot 0 - bytes)) (slice_set charges slot (get_or charges slot 0 - bytes)) slots
charged_after_taken ms freed charges slots slot bytes long own enough is = record {
  wide = length-set charges slot (get_or charges slot 0 - bytes) ∙ is.wide;
  each = λ s within.
      let each = is.each s within in
      let wide = is.wide in
      elim (cases_eq slot s) [
        | inl same ↦
            let left = ap (λ x. get_or (slice_set charges slot (get_or charges slot 0 - bytes)) x 0) (sym same)
            ∙ get_or-set_same charges slot (get_or charges slot 0 - bytes) 0 (omega (arith, wide, own)) in
            let right = ap (λ x. get_or (slice_set freed slot (get_or freed slot 0 - bytes)) x 0) (sym same)
            ∙ get_or-set_same freed slot (get_or freed slot 0 - bytes) 0 (omega (arith, long, own)) in
            let own_each = is.each slot own in
            let messages = ap (λ x. bytes_of_slot x ms) same in
            omega (arith, own_each, left, right, enough, messages)
        | inr other ↦
            let left = get_or-set_other charges slot s (get_or charges slot 0 - bytes) 0 (λ e. other (sym e)) in
            let right = get_or-set_other freed slot s (get_or freed slot 0 - bytes) 0 (λ e. other (sym e)) in
            omega (arith, each, left, right)
      ];
}
