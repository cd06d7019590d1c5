-- A journal that is walked from its oldest entry on, the streams that it shut and the headers that it refused.
use Rattle.std.proofs.Common.{◌≡◌, ◌<◌, ◌≤◌, ◌+◌, ◌-◌, ℕ, suc, List, [], ◌∷◌, drop, drop-cons, get_or, length, length-append, reverse, subst, sym, ap, ◌∙◌, arith}
use Rattle.std.proofs.lemmas.List.{get_or-reverse, length-drop, length-reverse}
use Rattle.rds_model.specs.declared.entry.Entry.{Entry}
use Rattle.rds_model.specs.declared.entry.Entry.TheVariants.{Bad, Shut}
use Rattle.rds_model.specs.Past.{Moment, before, now}
use Rattle.rds_line_channel.specs.Carried.{shut_streams, shuts}
use Rattle.rds_run_rounds.specs.Causes.{refusals}

-- the oldest entries of a journal
abbrev pub oldest : ℕ → List Entry → List Entry
oldest i past = drop (length past - i) past

-- the next entry comes on top of them: the one at place i of the entries, oldest first
pub oldest_next : (past : List Entry) (i : ℕ) (e : Entry) (entries : List Entry) → entries ≡ reverse past → i < length entries →
    e ≡ get_or entries i e → oldest (i + 1) past ≡ e ∷ oldest i past
oldest_next past i e entries is below at =
    let n = length-reverse past in
    let within : i < length (reverse past) = subst (λ (l : List Entry). i < length l) is below in
    let j = length past - (i + 1) in
    let there : get_or past (length past - 1 - i) e ≡ e =
    sym (get_or-reverse past i e (omega (arith, within, n))) ∙ sym (at ∙ ap (λ (l : List Entry). get_or l i e) is) in
    let same : length past - 1 - i ≡ j = omega (arith, within, n) in
    let next : suc j ≡ length past - i = omega (arith, within, n) in
    let cut : drop j past ≡ get_or past j e ∷ drop (suc j) past = drop-cons past j e (omega (arith, within, n)) in
    cut ∙ ap (λ (x : Entry). x ∷ drop (suc j) past) (ap (λ (k : ℕ). get_or past k e) (sym same) ∙ there) ∙ ap (λ (k : ℕ). e ∷ drop k past) next

-- where no entry is left they are all
pub oldest_end : (past : List Entry) (i : ℕ) (entries : List Entry) → entries ≡ reverse past → length entries ≤ i → oldest i past ≡ past
oldest_end past i entries is above =
    let n = length-reverse past in
    let all : length (reverse past) ≤ i = subst (λ (l : List Entry). length l ≤ i) is above in
    let none : length past - i ≡ 0 = omega (arith, all, n) in ap (λ (k : ℕ). drop k past) none

-- a place of the entries is one of the journal
pub place_within : (past : List Entry) (i : ℕ) (entries : List Entry) → entries ≡ reverse past → i < length entries → i < length past
place_within past i entries is below =
    let n = length-reverse past in
    let within : i < length (reverse past) = subst (λ (l : List Entry). i < length l) is below in omega (arith, within, n)

-- no more streams were shut, and no more headers refused, than there are entries
shuts_within : (past : List Entry) → shuts past ≤ length past
shuts_within [] = omega arith
shuts_within (Shut stream ∷ past) =
    let rest = shuts_within past in let more = length-append (shut_streams past) (stream ∷ []) in omega (arith, rest, more)
shuts_within (_ ∷ past) = let rest = shuts_within past in omega (arith, rest)

refusals_within : (past : List Entry) → refusals past ≤ length past
refusals_within [] = omega arith
refusals_within (Bad stream header cause ∷ past) = let rest = refusals_within past in omega (arith, rest)
refusals_within (_ ∷ past) = let rest = refusals_within past in omega (arith, rest)

-- so no more among its oldest entries than these are
oldest_within : (i : ℕ) (past : List Entry) → length (oldest i past) ≤ i
oldest_within i past = let count = length-drop (length past - i) past in omega (arith, count)

pub shuts_so_far : (i : ℕ) (past : List Entry) → shuts (oldest i past) ≤ i
shuts_so_far i past = let most = shuts_within (oldest i past) in let few = oldest_within i past in omega (arith, most, few)

pub refusals_so_far : (i : ℕ) (past : List Entry) → refusals (oldest i past) ≤ i
refusals_so_far i past = let most = refusals_within (oldest i past) in let few = oldest_within i past in omega (arith, most, few)

-- a journal that goes on refused no fewer headers
one_more : (entry : Entry) (past : List Entry) → refusals past ≤ refusals (entry ∷ past)
one_more (Bad stream header cause) past = omega arith
one_more _ past = omega arith

pub refusals_grow : {p j : List Entry} → Moment p j → refusals p ≤ refusals j
refusals_grow now = omega arith
refusals_grow (before {e} {j} later) =
    let so_far = refusals_grow later in
    let more = one_more e j in
    omega (arith, so_far, more)
