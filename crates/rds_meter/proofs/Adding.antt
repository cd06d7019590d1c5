-- An addition and a store of a limit keep the rule.
use Rattle.std.proofs.Common.{◌≡◌, ◌≢◌, ℕ, ◌+◌, ◌-◌, ◌%◌, ◌<◌, ◌≤◌, List, [], ◌∷◌, ◌++◌, length, set, cond, Bool, true, false, refl, sym, ap, ◌∙◌, subst, inl, inr, ⊎_elim, arith}
use Rattle.std.proofs.Math.Nat.{mod-eq_of_lt}
use Rattle.std.proofs.lemmas.List.{get_or-set_same, get_or-set_other, length-set}
use Rattle.std.proofs.lemmas.List.Elements.{Contains-append_left, Contains-push, Contains-push_cases}
use Rattle.std.specs.Prelude.{Contains, slice_index}
use Rattle.std.specs.Int.{bit_at}
use mathlib.Core.Logic.{dite}
use native.Mathlib.Decide.{ℕ_discrete}
use Rattle.atomic_table.specs.Table.{Me, Allows, keeps}
use Rattle.rds_seats.specs.Views.{At, Has}
use Rattle.rds_seats.specs.ViewLaws.{at_here, each_set, total_set}
use Rattle.rds_meter.specs.declared.view.View.{View}
use Rattle.rds_meter.specs.declared.view.Stage.{Stage}
use Rattle.rds_meter.specs.declared.view.Stage.TheVariants.{Put}
use Rattle.rds_meter.specs.declared.view.Step.{Step}
use Rattle.rds_meter.specs.declared.view.Step.TheVariants.{Added, Stored, Loaded}
use Rattle.rds_meter.specs.Places.{part}
use Rattle.rds_meter.specs.Seats.{after_add, after_store, is_put_word}
use Rattle.rds_meter.specs.Shared.{Shared, Ruled, HasStored, HasRaised, IsLimit, StageFits}
use Rattle.rds_meter.proofs.Facts.{Rising, has_on, limit_on, stage_on}
use Rattle.rds_meter.specs.PartLaws.{part-push, amount_here, amount_there}
use Rattle.rds_meter.proofs.Steps.{Counts, IsFew, stepped_one, plain_counts, totals_fit, part_within}

-- a step that isn't a load leaves the loads
pub loads_before : (v : View) (s : Step) (q n : ℕ) → (s ≡ Loaded q n → ⊥) → Contains (v.steps ++ s ∷ []) (Loaded q n) → Contains v.steps (Loaded q n)
loads_before v s q n other m = ⊎_elim (λ was. was) (λ same. absurd (other same)) (Contains-push_cases v.steps s (Loaded q n) m)

-- the stage after an addition to the word fits the words after it
stage_added : (words after : List ℕ) (views : List View) (stage : Stage) (q n : ℕ) (b : Bool) → is_put_word q ≡ b → Rising words after → slice_index after q ≡ n → StageFits words views stage → StageFits after views (cond b (Put (q - 2048) n) stage)
stage_added words after views stage q n true is puts here f =
    let low : 2048 ≤ q = grind arith in
    let high : q < 3072 = grind arith in
    let same : 2048 + (q - 2048) ≡ q = omega arith in
    record { slot_small = omega arith; put_within = (let e : slice_index after (2048 + (q - 2048)) ≡ n = ap (slice_index after) same ∙ here in omega arith); limit_was = inl refl }
stage_added words after views stage q n false is puts here f = stage_on words after views views puts (λ slot limit h. h) stage f

module _ (words : List ℕ) (views : List View) (id : ℕ) (v : View) (h : Shared words views) (here : At views id v) (living : 1 ≤ v.weight) where
  module _ (q k : ℕ) (low : 1024 ≤ q) (high : q < 4096) (few : part q v.steps + k ≤ 4503599627370496) where
    abbrev n : ℕ
    n = slice_index words q

    abbrev after : List ℕ
    after = set words q (n + k)

    abbrev w : View
    w = after_add v q k (n + k)

    size : length words ≡ 5121
    size = h.size

    word_here : slice_index after q ≡ n + k
    word_here = get_or-set_same words q (n + k) 0 (let s = size in omega arith)

    word_there : (i : ℕ) → i ≢ q → slice_index after i ≡ slice_index words i
    word_there i apart = get_or-set_other words q i (n + k) 0 apart

    rises : Rising words after
    rises slot small = dite (ℕ_discrete (2048 + slot) q)
        (λ e. let a : slice_index after (2048 + slot) ≡ n + k = ap (slice_index after) e ∙ word_here in let b : slice_index words (2048 + slot) ≡ n = ap (slice_index words) e in omega arith)
        (λ ne. let a = word_there (2048 + slot) ne in omega arith)

    added : (word : ℕ) → word ≡ q → part word w.steps ≡ part word v.steps + k
    added word e = let p = part-push word v.steps (Added q k (n + k)) in let a = amount_here word q k (n + k) (sym e) in omega arith

    others : (word : ℕ) → word ≢ q → part word w.steps ≡ part word v.steps
    others word ne = let p = part-push word v.steps (Added q k (n + k)) in let a = amount_there word q k (n + k) (λ e. ne (sym e)) in omega arith

    counts : Counts words after v w
    counts = record {
      parts = λ word l u. dite (ℕ_discrete word q)
          (λ e. let p = added word e in let a : slice_index after word ≡ n + k = ap (slice_index after) e ∙ word_here in let b : slice_index words word ≡ n = ap (slice_index words) e in omega arith)
          (λ ne. let p = others word ne in let a = word_there word ne in omega arith);
      seats = refl;
      few = λ word. dite (ℕ_discrete word q)
          (λ e. let p = added word e in let a : part word v.steps ≡ part q v.steps = ap (λ x. part x v.steps) e in let l = living in let f = few in omega arith)
          (λ ne. let p = others word ne in let f = h.few id v here word in omega arith);
      living = living;
    }

    pub room : n + k ≤ 18442240474082181120
    room =
        let now = set views id w in
        let t = total_set (λ (x : View). part q x.steps) views id v w here in
        let t' = total_set (λ (x : View). x.weight + x.splits) views id v w here in
        let f = totals_fit now q (each_set IsFew IsFew views id w h.few (λ x p. p) counts.few) (let z = h.seated in omega arith) in
        let a = added q refl in
        let z = h.sums q low high in
        omega arith

    keeps_stored : (slot limit : ℕ) → HasStored slot limit v → Has (set views id w) (HasStored slot limit)
    keeps_stored slot limit m = (id, w, at_here views id v w here, Contains-append_left v.steps (Added q k (n + k) ∷ []) _ m)

    keeps_raised : (port : ℕ) → HasRaised port v → Has (set views id w) (HasRaised port)
    keeps_raised port m = (id, w, at_here views id v w here, m)

    pub adds_at : Shared after (set views id w)
    adds_at = stepped_one words after views id v w h here (length-set words q (n + k) ∙ h.size) counts
        (λ word port small is set_bit.
        let same = word_there word (λ e. omega arith) in
        has_on (HasRaised port) views id v w here (keeps_raised port) (h.bits word port small is (subst (λ x. bit_at x (port % 64) ≡ 1) same set_bit)))
        record {
          puts = rises;
          stored = keeps_stored;
          raised = keeps_raised;
          limits = λ slot small. subst (IsLimit (set views id w) slot) (sym (word_there slot (λ e. omega arith)))
              (limit_on words words views (set views id w) (λ s l. omega arith) (λ s l. has_on (HasStored s l) views id v w here (keeps_stored s l)) slot _ (h.limits slot small));
          closed = h.closed id v here;
          opened = h.opened id v here;
          staged = stage_added words after views v.stage q (n + k) (is_put_word q) refl rises word_here (h.staged id v here);
          loaded = λ word found m. h.loaded id v here word found (loads_before v (Added q k (n + k)) word found (λ e. absurd (cc)) m);
        }

  module _ (slot limit : ℕ) (small : slot < 1024) where
    abbrev words_after : List ℕ
    words_after = set words slot limit

    abbrev storer : View
    storer = after_store v slot limit

    there : (i : ℕ) → i ≢ slot → slice_index words_after i ≡ slice_index words i
    there i apart = get_or-set_other words slot i limit 0 apart

    now_stored : (s l : ℕ) → HasStored s l v → Has (set views id storer) (HasStored s l)
    now_stored s l m = (id, storer, at_here views id v storer here, Contains-append_left v.steps (Stored slot limit ∷ []) _ m)

    now_raised : (port : ℕ) → HasRaised port v → Has (set views id storer) (HasRaised port)
    now_raised port m = (id, storer, at_here views id v storer here, m)

    limits_now : (s : ℕ) → s < 1024 → IsLimit (set views id storer) s (slice_index words_after s)
    limits_now s low = dite (ℕ_discrete s slot)
        (λ e.
        let at : slice_index words_after s ≡ limit = ap (slice_index words_after) e ∙ get_or-set_same words slot limit 0 (let z = h.size in omega arith) in
        subst (IsLimit (set views id storer) s) (sym at) (inr (id, storer, at_here views id v storer here, subst (λ x. Contains (v.steps ++ Stored slot limit ∷ []) (Stored x limit)) (sym e) (Contains-push v.steps (Stored slot limit)))))
        (λ ne. subst (IsLimit (set views id storer) s) (sym (there s ne)) (limit_on words words views (set views id storer) (λ x l. omega arith) (λ x l. has_on (HasStored x l) views id v storer here (now_stored x l)) s _ (h.limits s low)))

    pub stores_at : Shared words_after (set views id storer)
    stores_at = stepped_one words words_after views id v storer h here (length-set words slot limit ∙ h.size)
        (plain_counts words words_after v storer (Stored slot limit) (λ word. refl) (λ word l u. there word (λ e. omega arith)) refl refl refl living (h.few id v here))
        (λ word port low is set_bit.
        has_on (HasRaised port) views id v storer here (now_raised port)
        (h.bits word port low is (subst (λ x. bit_at x (port % 64) ≡ 1) (there word (λ e. omega arith)) set_bit)))
        record {
          puts = λ s low. (let e = there (2048 + s) (λ e. omega arith) in omega arith);
          stored = now_stored;
          raised = now_raised;
          limits = limits_now;
          closed = h.closed id v here;
          opened = h.opened id v here;
          staged = stage_on words words_after views views (λ s low. (let e = there (2048 + s) (λ e. omega arith) in omega arith)) (λ s l m. m) v.stage (h.staged id v here);
          loaded = λ word found m. h.loaded id v here word found (loads_before v (Stored slot limit) word found (λ e. absurd (cc)) m);
        }

pub adds : (homes id q k : ℕ) (me : Me (Unit {0}) View) → 1 ≤ me.0.weight → 1024 ≤ q → q < 4096 → part q me.0.steps + k ≤ 4503599627370496
    → Allows Ruled homes id me q (λ n. (n + k) % 18446744073709551616) (λ found now. (now ≡ (after_add me.0 q k (found + k), me.1)) × (found + k < 18446744073709551616) × (part q me.0.steps ≤ found))
adds homes id q k me living low high few s h homed here fits =
    let n = slice_index s.words q in
    let bound = room s.words s.views id me.0 h here living q k low high few in
    let small : n + k < 18446744073709551616 = omega arith in
    let w = after_add me.0 q k (n + k) in
    (w, keeps, tt, subst (λ x. Shared (set s.words q x) (set s.views id w)) (sym (mod-eq_of_lt small)) (adds_at s.words s.views id me.0 h here living q k low high few), (refl, small, part_within s.words s.views id q me.0 h here low high))

pub stores : (homes id slot limit : ℕ) (me : Me (Unit {0}) View) → 1 ≤ me.0.weight → slot < 1024 → Allows Ruled homes id me slot (λ _. limit) (λ _ now. now ≡ (after_store me.0 slot limit, me.1))
stores homes id slot limit me living small s h homed here fits = (after_store me.0 slot limit, keeps, tt, stores_at s.words s.views id me.0 h here living slot limit small, refl)
