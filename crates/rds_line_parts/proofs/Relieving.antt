-- Freed bytes that go to the meter one after another.
use Rattle.std.proofs.Common.{◌≡◌, ◌≢◌, ℕ, zero, suc, ◌+◌, ◌-◌, ◌<◌, ◌≤◌, ◌^◌, List, [], ◌∷◌, ◌++◌, length, slice_index, slice_set, All, sum, refl, sym, ap, ◌∙◌, arith, ⊎_elim, append-nil}
use Rattle.std.proofs.lemmas.Bool.{cases_eq, cases_lt}
use Rattle.std.proofs.lemmas.List.{append_assoc, get_or-set_same, get_or-set_other, get_or_past, length-set}
use Rattle.std.proofs.lemmas.List.Elements.{All-append}
use Rattle.std.proofs.lemmas.List.Sums.{sum_by-set}
use Rattle.rds_conn.specs.declared.freed.Freed.{Freed}
use Rattle.rds_conn.specs.Freeing.{HandsOutFreed}
use Rattle.rds_meter.specs.declared.view.Step.{Step}
use Rattle.rds_meter.specs.declared.view.Step.TheVariants.{Added}
use Rattle.rds_meter.specs.Places.{freed_word, part}
use Rattle.rds_meter.specs.Seats.{MeterSeat, knowing}
use Rattle.rds_meter.specs.PartLaws.{part-append, part-push, amount_here, amount_there}
use Rattle.rds_line_parts.specs.Words.{after_steps}
use Rattle.rds_line_parts.specs.Relief.{IsFreeing, IsRelief}

-- no element is above the sum
below_sum : (xs : List ℕ) (i : ℕ) → slice_index xs i ≤ sum xs
below_sum xs i =
    ⊎_elim
    (λ inside. let e : sum (slice_set xs i 0) + slice_index xs i ≡ sum xs + 0 = sum_by-set (λ x. x) xs i 0 0 inside in omega arith)
    (λ past. let e = get_or_past xs i 0 past in omega arith)
    (cases_lt i (length xs))

-- the sum falls with what is handed out
pub hands_out : (old new : List ℕ) (f : Freed) → HandsOutFreed old new f → sum new < sum old
hands_out old new f h =
    let e : sum (slice_set old f.slot (slice_index old f.slot - f.bytes)) + slice_index old f.slot ≡ sum old + (slice_index old f.slot - f.bytes) = sum_by-set (λ x. x) old f.slot (slice_index old f.slot - f.bytes) 0 h.slot_is in
    let within : f.bytes ≤ slice_index old f.slot = (let a = h.all in omega arith) in
    let some = h.some in
    let now : sum new ≡ sum (slice_set old f.slot (slice_index old f.slot - f.bytes)) = ap sum h.rest in
    omega arith

-- so many bytes of the slots are left, and the others were added
pub record Relieving (freed left : List ℕ) (old new : MeterSeat) : Type 0 where
  pub few : length freed ≤ 1024
  pub size : length left ≡ length freed
  pub steps : List Step
  pub seat : new ≡ knowing old (after_steps old.view steps)
  pub only : All IsFreeing steps
  pub each : (slot : ℕ) → part (freed_word slot) steps + slice_index left slot ≡ slice_index freed slot

pub relieving_first : (freed : List ℕ) (old : MeterSeat) → length freed ≤ 1024 → Relieving freed freed old old
relieving_first freed old few = record {
  few = few;
  size = refl;
  steps = [];
  seat = ap (λ (l : List Step). knowing old (record old.view { steps = l })) (sym (append-nil old.view.steps));
  only = λ i d h. absurd (omega arith);
  each = λ slot. omega arith;
}

module _ (freed left next : List ℕ) (old mid new : MeterSeat) (f : Freed) (n after : ℕ) (r : Relieving freed left old mid) (h : HandsOutFreed left next f) (bytes : n ≡ f.bytes) where
  within : n ≤ slice_index left f.slot
  within = let a = h.all in omega arith

  low : f.slot < 1024
  low = let a = h.slot_is in let b = r.size in let c = r.few in omega arith

  pub relieving_fits : ((slot : ℕ) → slot < length freed → part (freed_word slot) old.view.steps + slice_index freed slot ≤ 2 ^ 52) → part (freed_word f.slot) mid.view.steps + n ≤ 2 ^ 52
  relieving_fits most =
      let sum_is : part (freed_word f.slot) mid.view.steps ≡ part (freed_word f.slot) old.view.steps + part (freed_word f.slot) r.steps =
      ap (λ (s : MeterSeat). part (freed_word f.slot) s.view.steps) r.seat ∙ part-append (freed_word f.slot) old.view.steps r.steps in
      let e = r.each f.slot in
      let m = most f.slot (let a = h.slot_is in let b = r.size in omega arith) in
      let w = within in
      omega arith

  pub relieving_more : new ≡ knowing mid (after_steps mid.view (Added (freed_word f.slot) n after ∷ [])) → Relieving freed next old new
  relieving_more added = record {
    few = r.few;
    size = ap length h.rest ∙ (length-set left f.slot _ ∙ r.size);
    steps = r.steps ++ Added (freed_word f.slot) n after ∷ [];
    seat =
        added
        ∙ ap (λ (s : MeterSeat). knowing s (after_steps s.view (Added (freed_word f.slot) n after ∷ []))) r.seat
        ∙ ap (λ (l : List Step). knowing old (record old.view { steps = l })) (append_assoc old.view.steps r.steps (Added (freed_word f.slot) n after ∷ []));
    only = All-append IsFreeing r.steps (Added (freed_word f.slot) n after ∷ []) r.only (λ i d small. one i d small);
    each = λ slot.
        let push = part-push (freed_word slot) r.steps (Added (freed_word f.slot) n after) in
        let was = r.each slot in
        ⊎_elim
        (λ (same : slot ≡ f.slot).
        let more = amount_here (freed_word slot) (freed_word f.slot) n after (ap freed_word (sym same)) in
        let rest : slice_index next slot ≡ slice_index left f.slot - f.bytes = ap (slice_index next) same ∙ ap (λ l. slice_index l f.slot) h.rest ∙ get_or-set_same left f.slot _ 0 h.slot_is in
        let here = ap (slice_index left) same in
        let w = within in
        omega arith)
        (λ (other : slot ≢ f.slot).
        let more = amount_there (freed_word slot) (freed_word f.slot) n after (λ e. other (omega arith)) in
        let rest : slice_index next slot ≡ slice_index left slot = ap (λ l. slice_index l slot) h.rest ∙ get_or-set_other left f.slot slot _ 0 other in
        omega arith)
        (cases_eq slot f.slot);
  }
    where
      one : All IsFreeing (Added (freed_word f.slot) n after ∷ [])
      one zero d small = let l = low in (omega arith, omega arith)
      one (suc i) d small = absurd (omega arith)

-- none is left
pub relieving_last : (freed left : List ℕ) (old new : MeterSeat) → Relieving freed left old new → sum left ≡ 0 → IsRelief freed old new
relieving_last freed left old new r none = record {
  steps = r.steps;
  seat = r.seat;
  only = r.only;
  each = λ slot. let e = r.each slot in let b = below_sum left slot in omega arith;
}
