-- Each step on the two words of a stream keeps what holds of them.
use Rattle.std.proofs.Common.{◌≡◌, ◌≢◌, ◌⊎◌, ℕ, zero, suc, ◌+◌, ◌%◌, ◌<◌, ◌≤◌, List, [], ◌∷◌, ◌++◌, length, set, eqb, cond, true, refl, sym, ap, ◌∙◌, subst, inl, inr, ⊎_elim, arith, eq-eqb, ne_eqb}
use Rattle.std.proofs.Math.Nat.{mod-eq_of_lt}
use Rattle.std.proofs.lemmas.List.{get_or-set_same, get_or-set_other, length-set, set-get_or}
use Rattle.std.specs.Prelude.{slice_index}
use mathlib.Core.Logic.{dite}
use mathlib.Core.Option.{some-ne-none, some-injective}
use native.Mathlib.Decide.{ℕ_discrete}
use prog.Atomic.{either}
use Rattle.atomic_table.specs.Seated.{TableId}
use Rattle.atomic_table.specs.Table.{Me, Allows, Splits, Joins, keeps}
use Rattle.atomic_table.proofs.Lists.{at_set, at_snoc, set_again, set_else}
use Rattle.rds_seats.specs.Views.{At}
use Rattle.rds_seats.specs.ViewLaws.{each_set, each_snoc, total_set, total_snoc, total_at}
use Rattle.rds_link.specs.declared.words.view.View.{View}
use Rattle.rds_link.specs.Seats.{first_view, kept_half, given_half, after_draw, after_look, after_shut, note_of, heard, spent, FitsKnown}
use Rattle.rds_link.specs.Rule.{Fits, Shared, Ruled}

abbrev drawn_in : List ℕ → ℕ
drawn_in words = slice_index words 0

abbrev first_in : List ℕ → ℕ
first_in words = slice_index words 1

-- one view changes, and with it perhaps a word
pub record Change (words after : List ℕ) (views : List View) (id : ℕ) (v w : View) : Type 0 where
  pub size : length after ≡ 2
  pub named : first_in after ≤ drawn_in after
  pub draws : drawn_in after + w.draws ≡ drawn_in words + v.draws
  pub number : (w.number ≡ v.number) ⊎ (drawn_in words < w.number)
  pub others : (j : ℕ) (u : View) → j ≢ id → At views j u → Fits (drawn_in after) (first_in after) u
  pub own : Fits (drawn_in after) (first_in after) w

-- a view is set to one with the same number
set_apart : (views : List View) (id : ℕ) (v w : View) → ((i j : ℕ) (a b : View) → At views i a → At views j b → 1 ≤ a.number → b.number ≡ a.number → i ≡ j) → At views id v → w.number ≡ v.number
    → (i j : ℕ) (a b : View) → At (set views id w) i a → At (set views id w) j b → 1 ≤ a.number → b.number ≡ a.number → i ≡ j
set_apart views id v w apart here same_number i j a b at bt some same =
    let p = was i a at in let q = was j b bt in apart i j p.0 q.0 p.1 q.1 (let e = p.2 in omega arith) (sym q.2 ∙ (same ∙ p.2))
  where
    was : (i : ℕ) (a : View) → At (set views id w) i a → (u : View) × At views i u × (a.number ≡ u.number)
    was i a at = ⊎_elim
        (λ (s : (i ≡ id) × (w ≡ a)). (v, subst (λ k. At views k v) (sym s.0) here, sym (ap (λ (x : View). x.number) s.1) ∙ same_number))
        (λ (s : (i ≢ id) × At views i a). (a, s.1, refl))
        (at_set views id i w a at)

module _ (words after : List ℕ) (views : List View) (id : ℕ) (v w : View) (h : Shared words views) (here : At views id v) (c : Change words after views id v w) where
  clash : (j : ℕ) (u : View) → j ≢ id → At views j u → 1 ≤ u.number → u.number ≡ w.number → ⊥
  clash j u apart at some same = ⊎_elim
      (λ (e : w.number ≡ v.number). apart (h.apart j id u v at here some (omega arith)))
      (λ (more : drawn_in words < w.number). let f = (h.fits j u at).number in omega arith)
      c.number

  apart_after : (i j : ℕ) (a b : View) → At (set views id w) i a → At (set views id w) j b → 1 ≤ a.number → b.number ≡ a.number → i ≡ j
  apart_after i j a b at bt some same = ⊎_elim
      (λ (s : (i ≡ id) × (w ≡ a)). ⊎_elim
      (λ (t : (j ≡ id) × (w ≡ b)). s.0 ∙ sym t.0)
      (λ (t : (j ≢ id) × At views j b). absurd (clash j b t.0 t.1 (omega arith) (same ∙ sym (ap (λ (x : View). x.number) s.1))))
      (at_set views id j w b bt))
      (λ (s : (i ≢ id) × At views i a). ⊎_elim
      (λ (t : (j ≡ id) × (w ≡ b)). absurd (clash i a s.0 s.1 some (sym same ∙ sym (ap (λ (x : View). x.number) t.1))))
      (λ (t : (j ≢ id) × At views j b). h.apart i j a b s.1 t.1 some same)
      (at_set views id j w b bt))
      (at_set views id i w a at)

  pub changed : Shared after (set views id w)
  changed = record {
    size = c.size;
    drawn = let t = total_set (λ (x : View). x.draws) views id v w here in let d = h.drawn in let e = c.draws in omega arith;
    apart = apart_after;
    named = c.named;
    fits = λ j u at. ⊎_elim
        (λ (t : (j ≡ id) × (w ≡ u)). subst (Fits (drawn_in after) (first_in after)) t.1 c.own)
        (λ (t : (j ≢ id) × At views j u). c.others j u t.0 t.1)
        (at_set views id j w u at);
  }

-- a view that has no number and no draws is added
pub added : (words : List ℕ) (views : List View) (u : View) → Shared words views → u.number ≡ 0 → u.draws ≡ 0 → Fits (drawn_in words) (first_in words) u → Shared words (views ++ u ∷ [])
added words views u h none no_draws fits = record {
  size = h.size;
  drawn = let t = total_snoc (λ (x : View). x.draws) views u in let d = h.drawn in omega arith;
  apart = λ i j a b at bt some same. ⊎_elim
      (λ s. ⊎_elim (λ t. h.apart i j a b s t some same) (λ (t : u ≡ b). absurd (let e = ap (λ (x : View). x.number) t in omega arith)) (at_snoc views u b j bt))
      (λ (s : u ≡ a). absurd (let e = ap (λ (x : View). x.number) s in omega arith))
      (at_snoc views u a i at);
  named = h.named;
  fits = each_snoc _ _ views u h.fits (λ x p. p) fits;
}

-- the words stay
pub quiet : (words : List ℕ) (views : List View) (id : ℕ) (v w : View) → Shared words views → At views id v → w.draws ≡ v.draws → w.number ≡ v.number → Fits (drawn_in words) (first_in words) w → Shared words (set views id w)
quiet words views id v w h here draws number fits = changed words words views id v w h here record {
  size = h.size;
  named = h.named;
  draws = omega arith;
  number = inl number;
  others = λ j u apart at. h.fits j u at;
  own = fits;
}

-- what stands in the second word fits what a view knows
pub found_there : (words : List ℕ) (views : List View) (id : ℕ) (v : View) → Shared words views → At views id v → FitsKnown v (first_in words)
found_there words views id v h here = let f = h.fits id v here in record { few = let d = h.drawn in let m = h.named in omega arith; same = λ some. sym (f.known some); told = λ some. sym (f.told some); own = f.own }

pub looks : (homes id : ℕ) (me : Me (Unit {0}) View) → Allows Ruled homes id me 1 (λ n. n) (λ found now. (now ≡ (after_look me.0 found, me.1)) × FitsKnown me.0 found)
looks homes id me s h size here small =
    let f = h.fits id me.0 here in
    let n = first_in s.words in
    let w = after_look me.0 n in (
      w,
      keeps,
      tt,
      subst (λ ws. Shared ws (set s.views id w)) (sym (set-get_or s.words 1 0)) (quiet s.words s.views id me.0 w h here refl refl record { number = f.number; floor = f.floor; known = λ some. refl; told = f.told; own = f.own }),
      (refl, found_there s.words s.views id me.0 h here),
    )

pub learns : (homes id : ℕ) (me : Me (Unit {0}) View) → Allows Ruled homes id me 1 (λ n. n) (λ found now. (now ≡ me) × FitsKnown me.0 found)
learns homes id me s h size here small = (
  me.0,
  keeps,
  tt,
  subst (λ ws. Shared ws (set s.views id me.0)) (sym (set-get_or s.words 1 0)) (subst (Shared s.words) (sym (set_again s.views id me.0 here)) h),
  (refl, found_there s.words s.views id me.0 h here),
)

pub draws : (homes id : ℕ) (me : Me (Unit {0}) View) → me.0.number ≡ 0 → 1 ≤ me.0.draws
    → Allows Ruled homes id me 0 (λ n. (n + 1) % 18446744073709551616) (λ found now. (now ≡ (after_draw me.0 (found + 1), me.1)) × (me.0.floor ≤ found) × (found + me.0.draws ≤ 2))
draws homes id me none some s h size here small =
    let n = drawn_in s.words in
    let w = after_draw me.0 (n + 1) in
    let f = h.fits id me.0 here in
    let within = total_at (λ (x : View). x.draws) s.views id me.0 here in
    let d = h.drawn in
    let z = h.size in
    let next : (n + 1) % 18446744073709551616 ≡ n + 1 = mod-eq_of_lt (omega arith) in
    let after = set s.words 0 (n + 1) in
    let now : drawn_in after ≡ n + 1 = get_or-set_same s.words 0 (n + 1) 0 (omega arith) in
    let stays : first_in after ≡ first_in s.words = get_or-set_other s.words 0 1 (n + 1) 0 (λ e. omega arith) in
    let fits : (u : View) → u.number ≤ n + 1 → u.floor ≤ n + 1 → (1 ≤ u.first → u.first ≡ first_in s.words) → (1 ≤ u.told → u.told ≡ first_in s.words) → (1 ≤ u.number → u.number ≡ first_in s.words → u.shut ≡ true) → Fits (drawn_in after) (first_in after) u =
    λ u a b e t g. record { number = omega arith; floor = omega arith; known = λ k. e k ∙ sym stays; told = λ k. t k ∙ sym stays; own = λ k q. g k (q ∙ stays) } in
    let done : Shared after (set s.views id w) = changed s.words after s.views id me.0 w h here record {
      size = length-set s.words 0 (n + 1) ∙ z;
      named = let m = h.named in omega arith;
      draws = omega arith;
      number = inr (omega arith);
      others = λ j u apart at. let g = h.fits j u at in let a = g.number in let b = g.floor in fits u (omega arith) (omega arith) g.known g.told g.own;
      own = fits w (omega arith) (let b = f.floor in omega arith) f.known f.told (λ k q. absurd (let m = h.named in omega arith));
    } in
    (w, keeps, tt, subst (λ k. Shared (set s.words 0 k) (set s.views id w)) (sym next) done, (refl, f.floor, omega arith))

-- the exchange found 0 and wrote the end's number, or found another number and wrote nothing
module _ (words : List ℕ) (views : List View) (id : ℕ) (v : View) (h : Shared words views) (here : At views id v) (some : 1 ≤ v.number) where
  abbrev winner : View
  winner = record v { first = v.number; shut = true }

  pub wins : first_in words ≡ 0 → Shared (set words 1 v.number) (set views id winner)
  wins nothing =
      let z = h.size in
      let after = set words 1 v.number in
      let f = h.fits id v here in
      let now : first_in after ≡ v.number = get_or-set_same words 1 v.number 0 (omega arith) in
      let stays : drawn_in after ≡ drawn_in words = get_or-set_other words 1 0 v.number 0 (λ e. omega arith) in
      changed words after views id v winner h here record {
        size = length-set words 1 v.number ∙ z;
        named = let a = f.number in omega arith;
        draws = omega arith;
        number = inl refl;
        others = λ j u apart at. let g = h.fits j u at in record {
          number = let a = g.number in omega arith;
          floor = let a = g.floor in omega arith;
          known = λ k. absurd (let e = g.known k in omega arith);
          told = λ k. absurd (let e = g.told k in omega arith);
          own = λ k q. absurd (apart (h.apart j id u v at here k (sym (q ∙ now))));
        };
        own = record { number = (let a = f.number in omega arith); floor = (let a = f.floor in omega arith); known = λ k. sym now; told = λ k. absurd (let e = f.told k in omega arith); own = λ k q. refl };
      }

  pub comes_second : Shared words (set views id (record v { first = first_in words; shut = true }))
  comes_second = let f = h.fits id v here in quiet words views id v (record v { first = first_in words; shut = true }) h here refl refl record { number = f.number; floor = f.floor; known = λ k. refl; told = f.told; own = λ k q. refl }

if_zero : (n a : ℕ) → n ≡ 0 → cond (eqb n 0) a n ≡ a
if_zero n a e = ap (λ b. cond b a n) (eq-eqb n 0 e)

if_other : (n a : ℕ) → n ≢ 0 → cond (eqb n 0) a n ≡ n
if_other n a ne = ap (λ b. cond b a n) (ne_eqb n 0 ne)

pub shuts : (homes id number : ℕ) (me : Me (Unit {0}) View) → number ≡ me.0.number → 1 ≤ number
    → Allows Ruled homes id me 1 (λ n. either (eqb n 0) number n) (λ found now. (now ≡ (after_shut me.0 found, me.1)) × FitsKnown me.0 found)
shuts homes id number me is some s h size here small =
    let n = first_in s.words in (
      after_shut me.0 n,
      keeps,
      tt,
      dite (ℕ_discrete n 0)
          (λ nothing.
          subst (λ (k : ℕ). Shared (set s.words 1 k) (set s.views id (after_shut me.0 n))) (sym (ap (λ b. either b number n) (eq-eqb n 0 nothing)))
          (subst (λ (k : ℕ). Shared (set s.words 1 number) (set s.views id (record me.0 { first = k; shut = true }))) (sym (if_zero n me.0.number nothing))
          (subst (λ (k : ℕ). Shared (set s.words 1 k) (set s.views id (record me.0 { first = me.0.number; shut = true }))) (sym is) (wins s.words s.views id me.0 h here (omega arith) nothing))))
          (λ other.
          subst (λ (k : ℕ). Shared (set s.words 1 k) (set s.views id (after_shut me.0 n))) (sym (ap (λ b. either b number n) (ne_eqb n 0 other)))
          (subst (λ ws. Shared ws (set s.views id (after_shut me.0 n))) (sym (set-get_or s.words 1 0))
          (subst (λ (k : ℕ). Shared s.words (set s.views id (record me.0 { first = k; shut = true }))) (sym (if_other n me.0.number other)) (comes_second s.words s.views id me.0 h here (omega arith))))),
      (refl, found_there s.words s.views id me.0 h here),
    )

pub halves : (id : ℕ) (v : View) → 1 ≤ v.draws → Splits Ruled id v (kept_half v) (given_half v)
halves id v some s h here =
    let w = kept_half v in
    let u = given_half v in
    let f = h.fits id v here in
    let left = set s.views id w in
    let mine : Fits (drawn_in s.words) (first_in s.words) w = record { number = f.number; floor = f.floor; known = f.known; told = f.told; own = f.own } in
    let its : Fits (drawn_in s.words) (first_in s.words) u = record { number = omega arith; floor = f.number; known = λ k. absurd (omega arith); told = λ k. absurd (omega arith); own = λ k q. absurd (omega arith) } in
    record {
      size = h.size;
      drawn = let t = total_snoc (λ (x : View). x.draws) left u in let r = total_set (λ (x : View). x.draws) s.views id v w here in let d = h.drawn in omega arith;
      apart = λ i j a b at bt k same. ⊎_elim
          (λ p. ⊎_elim (λ q. left_apart w refl here h i j a b p q k same) (λ (q : u ≡ b). absurd (let e = ap (λ (x : View). x.number) q in omega arith)) (at_snoc left u b j bt))
          (λ (p : u ≡ a). absurd (let e = ap (λ (x : View). x.number) p in omega arith))
          (at_snoc left u a i at);
      named = h.named;
      fits = each_snoc _ _ left u (each_set _ _ s.views id w h.fits (λ x p. p) mine) (λ x p. p) its;
    }
  where
    left_apart : (w : View) → w.number ≡ v.number → At s.views id v → Shared s.words s.views → (i j : ℕ) (a b : View) → At (set s.views id w) i a → At (set s.views id w) j b → 1 ≤ a.number → b.number ≡ a.number → i ≡ j
    left_apart w same_number here h = set_apart s.views id v w h.apart here same_number

pub notes : (id : ℕ) (v : View) → Splits Ruled id v v (note_of v)
notes id v s h here =
    let f = h.fits id v here in
    subst (λ l. Shared s.words (l ++ note_of v ∷ [])) (sym (set_again s.views id v here))
    (added s.words s.views (note_of v) h refl refl record { number = omega arith; floor = omega arith; known = f.known; told = λ k. absurd (omega arith); own = λ k q. absurd (omega arith) })

pub hears : (id other : ℕ) (v : View) {w : View} → w.number ≡ 0 → w.draws ≡ 0 → Joins Ruled id v other w (heard v w) spent
hears id other v {w} none no_draws s h here apart there =
    let old : At s.views other w = sym (set_else s.views id other (heard v w) apart) ∙ there in
    let f = h.fits id v here in
    let g = h.fits other w old in
    let mid = quiet s.words s.views id v (heard v w) h here refl refl record { number = f.number; floor = f.floor; known = f.known; told = g.known; own = f.own } in
    quiet s.words (set s.views id (heard v w)) other w spent mid there (sym no_draws) (sym none) record { number = omega arith; floor = omega arith; known = λ k. absurd (omega arith); told = λ k. absurd (omega arith); own = λ k q. absurd (omega arith) }

pub opens : Ruled record { words = 0 ∷ 0 ∷ []; homes = []; views = first_view ∷ [] }
opens = record {
  size = refl;
  drawn = refl;
  apart = λ i j a b at bt some same. absurd (let e = alone (λ u. u.number ≡ 0) refl i a at in omega arith);
  named = omega arith;
  fits = λ j u at. alone (Fits 0 0) record { number = omega arith; floor = omega arith; known = λ k. absurd (omega arith); told = λ k. absurd (omega arith); own = λ k q. absurd (omega arith) } j u at;
}
  where
    alone : (P : View → Type 0) → P first_view → (j : ℕ) (u : View) → At (first_view ∷ []) j u → P u
    alone P p zero u at = subst P (some-injective _ _ at) p
    alone P p (suc j) u at = absurd (some-ne-none u (sym at))

-- a word of a seat's table is one of the two
pub within : {a b : TableId} {n : ℕ} → a ≡ b → a.words ≡ 2 → n < 2 → n < b.words
within {a} {b} {n} same two below = subst (λ (t : TableId). n < t.words) same (omega arith)
