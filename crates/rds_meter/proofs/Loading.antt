-- A load keeps the rule, and moves the check that the seat is at; and a load of any word tells that the rule holds.
use Rattle.std.proofs.Common.{◌≡◌, ℕ, ◌+◌, ◌<◌, ◌≤◌, List, [], ◌∷◌, set, Some, None, Option, is_some, eqb, eqb-true, cond, Bool, true, false, refl, sym, ap, ◌∙◌, subst, ⊎_elim, arith}
use Rattle.std.proofs.lemmas.List.{set-get_or}
use Rattle.std.proofs.lemmas.List.Elements.{Contains-append_left, Contains-append_cases, Contains-push_cases}
use Rattle.std.specs.Prelude.{Contains, slice_index}
use Rattle.atomic_table.specs.Table.{Me, Allows, keeps}
use Rattle.atomic_table.proofs.Lists.{set_again}
use Rattle.rds_seats.specs.Views.{At, Has}
use Rattle.rds_seats.specs.ViewLaws.{at_here}
use Rattle.rds_meter.specs.declared.view.View.{View}
use Rattle.rds_meter.specs.declared.view.Check.{Check}
use Rattle.rds_meter.specs.declared.view.Stage.{Stage}
use Rattle.rds_meter.specs.declared.view.Stage.TheVariants.{Idle, Put, Limited}
use Rattle.rds_meter.specs.declared.view.Step.TheVariants.{Loaded}
use Rattle.rds_meter.specs.Places.{part, taken_word}
use Rattle.rds_meter.specs.Seats.{after_load, stage_after, completed, opening, closing, must_raise}
use Rattle.rds_meter.specs.Shared.{Shared, Ruled, Taught, Alone, HasStored, HasRaised, IsLimit, BitsFit, FitsSlot, StageFits}
use Rattle.rds_meter.proofs.Facts.{nothing_in, has_on, limit_on, bits_on}
use Rattle.rds_meter.proofs.Steps.{stepped_one, plain_counts, part_within, totals_fit}
use Rattle.rds_meter.proofs.Opening.{alone}

only_one : {X : Type 0} (x y : X) → Contains (x ∷ []) y → x ≡ y
only_one x y m = ⊎_elim (λ none. absurd (nothing_in y none)) (λ e. e) (Contains-push_cases [] x y m)

-- a load of the limit goes on from what the put word was
stage_limit : (words : List ℕ) (views : List View) (slot put found q : ℕ) (b : Bool) → eqb q slot ≡ b → FitsSlot words views slot put 0 → (q ≡ slot → IsLimit views slot found)
    → StageFits words views (cond b (Limited slot put found) (Put slot put))
stage_limit words views slot put found q true is f limit = record { slot_small = f.slot_small; put_within = f.put_within; limit_was = limit (eqb-true q slot is) }
stage_limit words views slot put found q false is f limit = f

stage_taken : (words : List ℕ) (views : List View) (slot put l : ℕ) (b : Bool) → FitsSlot words views slot put l → StageFits words views (cond b Idle (Limited slot put l))
stage_taken words views slot put l true f = tt
stage_taken words views slot put l false f = f

-- the stage after a load fits
stage_loaded : (words : List ℕ) (views : List View) (stage : Stage) (q found : ℕ) → StageFits words views stage → ((slot : ℕ) → slot < 1024 → q ≡ slot → IsLimit views slot found) → StageFits words views (stage_after stage q found)
stage_loaded words views Idle q found f limit = tt
stage_loaded words views (Put slot put) q found f limit = stage_limit words views slot put found q (eqb q slot) refl f (limit slot f.slot_small)
stage_loaded words views (Limited slot put l) q found f limit = stage_taken words views slot put l (eqb q (taken_word slot)) f

ended : (words : List ℕ) (views : List View) (slot put l found : ℕ) (b : Bool) (c : Check) → FitsSlot words views slot put l
    → cond b (Some (record { slot = slot; put = put; limit = l; taken = found; raised = None })) None ≡ Some c → FitsSlot words views c.slot c.put c.limit × (c.raised ≡ None)
ended words views slot put l found true c f e =
    let k : Check = record { slot = slot; put = put; limit = l; taken = found; raised = None } in
    let same : k ≡ c = cc in
    subst (λ (x : Check). FitsSlot words views x.slot x.put x.limit × (x.raised ≡ None)) same (f, refl)
ended words views slot put l found false c f e = absurd (cc)

-- the check that a load completes has found what the stage had
completed_fits : (words : List ℕ) (views : List View) (stage : Stage) (q found : ℕ) (c : Check) → StageFits words views stage → completed stage q found ≡ Some c → FitsSlot words views c.slot c.put c.limit × (c.raised ≡ None)
completed_fits words views Idle q found c f e = absurd (cc)
completed_fits words views (Put slot put) q found c f e = absurd (cc)
completed_fits words views (Limited slot put l) q found c f e = ended words views slot put l found (eqb q (taken_word slot)) c f e

closes : (x c : Check) (b : Bool) → must_raise x ≡ b → Contains (cond b [] (x ∷ [])) c → (x ≡ c) × (must_raise c ≡ false)
closes x c true is m = absurd (nothing_in c m)
closes x c false is m = let same = only_one x c m in (same, subst (λ k. must_raise k ≡ false) same is)

opens_one : (x c : Check) (b : Bool) → must_raise x ≡ b → Contains (cond b (x ∷ []) []) c → (x ≡ c) × (must_raise c ≡ true)
opens_one x c true is m = let same = only_one x c m in (same, subst (λ k. must_raise k ≡ true) same is)
opens_one x c false is m = absurd (nothing_in c m)

closing_in : (o : Option Check) (c : Check) → Contains (closing o) c → (o ≡ Some c) × (must_raise c ≡ false)
closing_in None c m = absurd (nothing_in c m)
closing_in (Some x) c m = let k = closes x c (must_raise x) refl m in (ap Some k.0, k.1)

opening_in : (o : Option Check) (c : Check) → Contains (opening o) c → (o ≡ Some c) × (must_raise c ≡ true)
opening_in None c m = absurd (nothing_in c m)
opening_in (Some x) c m = let k = opens_one x c (must_raise x) refl m in (ap Some k.0, k.1)

unraised : (c : Check) → c.raised ≡ None → must_raise c ≡ false → is_some c.raised ≡ must_raise c
unraised c none must = ap is_some none ∙ sym must

module _ (words : List ℕ) (views : List View) (id q : ℕ) (v : View) (h : Shared words views) (here : At views id v) (living : 1 ≤ v.weight) where
  abbrev n : ℕ
  n = slice_index words q

  abbrev w : View
  w = after_load v q n

  abbrev done : Option Check
  done = completed v.stage q n

  keeps_stored : (slot limit : ℕ) → HasStored slot limit v → Has (set views id w) (HasStored slot limit)
  keeps_stored slot limit m = (id, w, at_here views id v w here, Contains-append_left v.steps (Loaded q n ∷ []) _ m)

  keeps_raised : (port : ℕ) → HasRaised port v → Has (set views id w) (HasRaised port)
  keeps_raised port m = (id, w, at_here views id v w here, (m.0, Contains-append_left v.checks (closing done) m.0 m.1, m.2))

  pub loads_at : Shared words (set views id w)
  loads_at = stepped_one words words views id v w h here h.size
      (plain_counts words words v w (Loaded q n) (λ word. refl) (λ word l u. refl) refl refl refl living (h.few id v here))
      (λ word. bits_on views (set views id w) (λ port. has_on (HasRaised port) views id v w here (keeps_raised port)) word (slice_index words word) (h.bits word))
      record {
        puts = λ slot small. omega arith;
        stored = keeps_stored;
        raised = keeps_raised;
        limits = λ slot small. limit_on words words views (set views id w) (λ s l. omega arith) (λ s l. has_on (HasStored s l) views id v w here (keeps_stored s l)) slot _ (h.limits slot small);
        closed = λ c m. ⊎_elim
            (λ was. h.closed id v here c was)
            (λ new. let k = closing_in done c new in let f = completed_fits words views v.stage q n c (h.staged id v here) k.0 in (f.0, unraised c f.1 k.1))
            (Contains-append_cases v.checks (closing done) c m);
        opened = λ c m. ⊎_elim
            (λ new. let k = opening_in done c new in let f = completed_fits words views v.stage q n c (h.staged id v here) k.0 in (f.0, k.1, f.1))
            (λ was. h.opened id v here c was)
            (Contains-append_cases (opening done) v.pending c m);
        staged = stage_loaded words views v.stage q n (h.staged id v here) (λ slot small e. subst (λ x. IsLimit views slot (slice_index words x)) (sym e) (h.limits slot small));
        loaded = λ word found m. ⊎_elim
            (λ was. h.loaded id v here word found was)
            (λ (same : Loaded q n ≡ Loaded word found). let a : q ≡ word = cc in let b : n ≡ found = cc in subst (BitsFit views word) b (subst (λ x. BitsFit views x n) a (h.bits q)))
            (Contains-push_cases v.steps (Loaded q n) (Loaded word found) m);
      }

pub loads : (homes id q : ℕ) (me : Me (Unit {0}) View) → 1 ≤ me.0.weight
    → Allows Ruled homes id me q (λ n. n) (λ found now. (now ≡ (after_load me.0 q found, me.1)) × (1024 ≤ q → q < 4096 → part q me.0.steps ≤ found) × (1024 ≤ q → q < 4096 → found ≤ 18442240474082181120))
loads homes id q me living s h homed here fits =
    let w = after_load me.0 q (slice_index s.words q) in
    (w, keeps, tt, subst (λ ws. Shared ws (set s.views id w)) (sym (set-get_or s.words q 0)) (loads_at s.words s.views id q me.0 h here living), (refl, (λ low high. part_within s.words s.views id q me.0 h here low high), (λ low high. subst (λ n. n ≤ 18442240474082181120) (sym (h.sums q low high)) (totals_fit s.views q h.few h.seated))))

pub learns : (homes id : ℕ) (me : Me (Unit {0}) View) → Allows Ruled homes id me 0 (λ n. n) (λ found now. (now ≡ me) × Taught me.0 × (me.0.weight + me.0.splits ≡ 4095 → Alone me.0))
learns homes id me s h homed here fits = (
  me.0,
  keeps,
  tt,
  subst (λ ws. Shared ws (set s.views id me.0)) (sym (set-get_or s.words 0 0)) (subst (Shared s.words) (sym (set_again s.views id me.0 here)) h),
  (refl, (s.words, s.views, h, (id, me.0, here, refl)), (λ all. (s.words, alone s.words s.views id me.0 h here all))),
)
