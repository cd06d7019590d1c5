-- A walk over a journal, entry by entry.
use Rattle.std.proofs.Common.{◌≡◌, ◌<◌, ◌≤◌, ◌+◌, ◌-◌, ◌||◌, ℕ, zero, suc, Bool, true, false, List, [], ◌∷◌, length, reverse, drop, slice_get, Some, get_or, arith, sym, ap, refl, subst, ◌∙◌, drop-cons}
use Rattle.std.proofs.lemmas.List.{get_or-reverse, length-reverse, drop_all}
use Rattle.std.proofs.lemmas.Option.{slice_get_within, get_or_from_slice_get}
use Rattle.rds_model.specs.declared.entry.Entry.{Entry}
use Rattle.rds_model.specs.declared.entry.Entry.TheVariants.{Accept}
use Rattle.rds_model.specs.Past.{accepted}
use Rattle.rds_report.specs.Items.{is_cancellation, has_cancellation}
use Rattle.rds_report.specs.TakenBackWalk.{before}

-- the next entry comes on top: the one at place i of the entries, oldest first
pub before_next : (past : List Entry) (i : ℕ) (e : Entry) (entries : List Entry) → entries ≡ reverse past → i < length entries →
    e ≡ get_or entries i e → before (i + 1) past ≡ e ∷ before i past
before_next past i e entries is below at =
    let n = length-reverse past in
    let within : i < length (reverse past) = subst (λ (l : List Entry). i < length l) is below in
    let j = length past - (i + 1) in
    let there : get_or past (length past - 1 - i) e ≡ e =
    sym (get_or-reverse past i e (omega (arith, within, n))) ∙ sym (at ∙ ap (λ (l : List Entry). get_or l i e) is) in
    let same : length past - 1 - i ≡ j = omega (arith, within, n) in
    let next : suc j ≡ length past - i = omega (arith, within, n) in
    let cut : drop j past ≡ get_or past j e ∷ drop (suc j) past = drop-cons past j e (omega (arith, within, n)) in
    cut ∙ ap (λ (x : Entry). x ∷ drop (suc j) past) (ap (λ (k : ℕ). get_or past k e) (sym same) ∙ there)
    ∙ ap (λ (k : ℕ). e ∷ drop k past) next

-- the same of the entry that is found there
pub before_more : (past : List Entry) (i : ℕ) (e : Entry) → slice_get (reverse past) i ≡ Some e →
    before (i + 1) past ≡ e ∷ before i past
before_more past i e is =
    before_next past i e (reverse past) refl (slice_get_within (reverse past) i e is) (sym (get_or_from_slice_get (reverse past) i e e is))

-- at first there is none
pub before_none : (past : List Entry) → before 0 past ≡ []
before_none past = drop_all (length past - 0) past (omega arith)

-- at last all are there
pub before_all : (past : List Entry) (i : ℕ) → i ≡ length past → before i past ≡ past
before_all past i is = let e : length past - i ≡ 0 = omega arith in ap (λ (k : ℕ). drop k past) e

-- and so where no entry is left
pub before_end : (past : List Entry) (i : ℕ) (entries : List Entry) → entries ≡ reverse past → length entries ≤ i → before i past ≡ past
before_end past i entries is above =
    let n = length-reverse past in
    let past_all : length (reverse past) ≤ i = subst (λ (l : List Entry). length l ≤ i) is above in
    let e : length past - i ≡ 0 = omega (arith, past_all, n) in ap (λ (k : ℕ). drop k past) e

-- the first i entries have no more acceptances than all
pub accepted_drop : (k : ℕ) (past : List Entry) → accepted (drop k past) ≤ accepted past
accepted_drop zero past = omega arith
accepted_drop (suc k) [] = omega arith
accepted_drop (suc k) (Accept slot sport dport payload ∷ past) = let h = accepted_drop k past in omega (arith, h)
accepted_drop (suc k) (_ ∷ past) = accepted_drop k past

pub accepted_before : (i : ℕ) (past : List Entry) → accepted (before i past) ≤ accepted past
accepted_before i past = accepted_drop (length past - i) past

-- a cancellation among the first i entries is one among all
cancelled_drop : (k : ℕ) (past : List Entry) → has_cancellation (drop k past) ≡ true → has_cancellation past ≡ true
cancelled_drop zero past is = is
cancelled_drop (suc k) [] is = is
cancelled_drop (suc k) (e ∷ past) is = or_true (is_cancellation e) (cancelled_drop k past is)
  where
    or_true : (x : Bool) → has_cancellation past ≡ true → (x || has_cancellation past) ≡ true
    or_true true rest = refl
    or_true false rest = rest

pub cancelled_before : (i : ℕ) (past : List Entry) → has_cancellation (before i past) ≡ true → has_cancellation past ≡ true
cancelled_before i past = cancelled_drop (length past - i) past
