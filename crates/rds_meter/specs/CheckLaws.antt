-- Laws, each proved: proofs in other crates use them. Nothing here has to be believed.
-- What a seat's check is after its three steps: an addition to the put word of a slot, a load of the limit and a load of the taken word.
use Rattle.std.proofs.Common.{◌≡◌, append-nil, ℕ, ◌+◌, ◌-◌, ◌<◌, [], ◌∷◌, ◌++◌, Some, None, eq-eqb, cond, Bool, true, false, refl, sym, ap, ◌∙◌, arith}
use Rattle.std.proofs.lemmas.Bool.Decides.{nat_tests}
use Rattle.rds_meter.specs.declared.view.View.{View}
use Rattle.rds_meter.specs.declared.view.Check.{Check}
use Rattle.rds_meter.specs.declared.view.Stage.{Stage}
use Rattle.rds_meter.specs.declared.view.Stage.TheVariants.{Idle, Put, Limited}
use Rattle.rds_meter.specs.declared.mark.Mark.{Mark}
use Rattle.rds_meter.specs.Places.{limit_word, put_word, taken_word}
use Rattle.rds_meter.specs.Seats.{after_add, after_load, stage_after, completed, opening, closing, must_raise, is_put_word, OpensWith}

put_word_is : (slot : ℕ) → slot < 1024 → is_put_word (2048 + slot) ≡ true
put_word_is slot small = grind (arith, nat_tests)

module _ (v : View) (slot amount put limit taken : ℕ) (small : slot < 1024) where
  -- what was found
  abbrev pub check : Check
  check = record { slot = slot; put = put; limit = limit; taken = taken; raised = None }

  -- the view after the three steps
  abbrev pub checked : View
  checked = after_load (after_load (after_add v (put_word slot) amount put) (limit_word slot) limit) (taken_word slot) taken

  abbrev first : Stage
  first = (after_add v (put_word slot) amount put).stage

  first_is : first ≡ Put slot put
  first_is = ap (λ (b : Bool). cond b (Put (2048 + slot - 2048) put) v.stage) (put_word_is slot small) ∙ ap (λ s. Put s put) (let e : 2048 + slot - 2048 ≡ slot = omega arith in e)

  second_is : stage_after first slot limit ≡ Limited slot put limit
  second_is = ap (λ s. stage_after s slot limit) first_is ∙ ap (λ (b : Bool). cond b (Limited slot put limit) (Put slot put)) (eq-eqb slot slot refl)

  last_is : completed (stage_after first slot limit) (taken_word slot) taken ≡ Some check
  last_is = ap (λ s. completed s (taken_word slot) taken) second_is ∙ ap (λ (b : Bool). cond b (Some check) None) (eq-eqb (taken_word slot) (taken_word slot) refl)

  none_yet : completed first slot limit ≡ None
  none_yet = ap (λ s. completed s slot limit) first_is

  -- no check is under way after them
  pub idle : checked.stage ≡ Idle
  idle = ap (λ s. stage_after s (taken_word slot) taken) second_is ∙ ap (λ (b : Bool). cond b Idle (Limited slot put limit)) (eq-eqb (taken_word slot) (taken_word slot) refl)

  -- a check that has to raise a bit is the latest open one
  pub opens : must_raise check ≡ true → checked.pending ≡ check ∷ v.pending
  opens must =
      ap (λ o. opening o ++ (opening (completed first slot limit) ++ v.pending)) last_is
      ∙ (ap (λ (b : Bool). cond b (check ∷ []) [] ++ (opening (completed first slot limit) ++ v.pending)) must ∙ ap (λ o. check ∷ (opening o ++ v.pending)) none_yet)

  -- so the bit may be raised by a mark with these numbers
  pub opens_with : (mark : Mark) → mark.put ≡ put → mark.limit ≡ limit → mark.taken ≡ taken → must_raise check ≡ true → OpensWith checked mark
  opens_with mark p l t must = (slot, v.pending, opens must ∙ (λ i. record { slot = slot; put = sym p i; limit = sym l i; taken = sym t i; raised = None } ∷ v.pending))

  -- any other check is closed, and the open ones stay
  pub closes : must_raise check ≡ false → (checked.checks ≡ v.checks ++ check ∷ []) × (checked.pending ≡ v.pending)
  closes must = (
    ap (λ o. (v.checks ++ closing (completed first slot limit)) ++ closing o) last_is
        ∙ (ap (λ (b : Bool). (v.checks ++ closing (completed first slot limit)) ++ cond b [] (check ∷ [])) must ∙ (ap (λ o. (v.checks ++ closing o) ++ check ∷ []) none_yet ∙ ap (λ l. l ++ check ∷ []) (append-nil v.checks))),
    ap (λ o. opening o ++ (opening (completed first slot limit) ++ v.pending)) last_is
        ∙ (ap (λ (b : Bool). cond b (check ∷ []) [] ++ (opening (completed first slot limit) ++ v.pending)) must ∙ ap (λ o. opening o ++ v.pending) none_yet),
  )

-- a load that no check waits for leaves the checks and the stage as they were
pub load_at_idle : (v : View) (word found : ℕ) → v.stage ≡ Idle →
    ((after_load v word found).stage ≡ Idle) × ((after_load v word found).checks ≡ v.checks) × ((after_load v word found).pending ≡ v.pending)
load_at_idle v word found idle = (
  ap (λ s. stage_after s word found) idle,
  ap (λ s. v.checks ++ closing (completed s word found)) idle ∙ append-nil v.checks,
  ap (λ s. opening (completed s word found) ++ v.pending) idle,
)
