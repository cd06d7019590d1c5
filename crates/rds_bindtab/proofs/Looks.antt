-- A look keeps the rule and tells what it found; and a load of any word tells that the rule holds.
use Rattle.std.proofs.Common.{◌≡◌, ◌≢◌, ℕ, zero, suc, ◌+◌, ◌<◌, List, set, Some, Option, refl, sym, ap, ◌∙◌, subst, inl, inr, ⊎_elim, arith}
use Rattle.std.proofs.lemmas.List.{set-get_or}
use Rattle.std.proofs.lemmas.List.Elements.{Contains-append_left, Contains-push_cases}
use Rattle.std.specs.Prelude.{slice_index, Contains}
use mathlib.Core.Logic.{dite}
use mathlib.Core.Option.{some-injective}
use native.Mathlib.Decide.{ℕ_discrete}
use lib.ListN.{get_elem?}
use Rattle.atomic_table.specs.Table.{Me, Allows, keeps}
use Rattle.atomic_table.proofs.Lists.{set_again}
use Rattle.rds_seats.specs.Views.{At, Has}
use Rattle.rds_seats.specs.ViewLaws.{at_here}
use Rattle.rds_bindtab.specs.declared.view.View.{View}
use Rattle.rds_bindtab.specs.declared.view.Telling.{Telling}
use Rattle.rds_bindtab.specs.declared.view.Step.TheVariants.{Looked}
use Rattle.rds_bindtab.specs.Seats.{after_look, slot_in}
use Rattle.rds_bindtab.specs.Shared.{Shared, Ruled, Taught, HoldsPort, HasClaimed, OfHolder, TellingIsOver, LooksFit}
use Rattle.rds_bindtab.proofs.Words.{draws_in, stepped_one, ports_same}

-- the slot that a word names
pub slot_at : (n s : ℕ) → n ≡ 1 + s → slot_in n ≡ Some s
slot_at n s e = let k : n ≡ suc s = omega arith in ap slot_in k

pub at_slot : (n s : ℕ) → slot_in n ≡ Some s → n ≡ 1 + s
at_slot zero s e = absurd (cc)
at_slot (suc n) s e = let k : n ≡ s = cc in omega arith

module _ (slots : ℕ) (words : List ℕ) (views : List View) (id : ℕ) (v : View) (h : Shared slots words views) (here : At views id v) (port : ℕ) (small : port < 65536) where
  abbrev n : ℕ
  n = slice_index words port

  abbrev w : View
  w = after_look v port (slot_in n)

  found_held : (slot : ℕ) → slot_in n ≡ Some slot → Has views (HoldsPort port slot)
  found_held slot e = (h.ports port slot small).0 (at_slot n slot e)

  pub found_below : (slot : ℕ) → slot_in n ≡ Some slot → slot < slots
  found_below slot e = let k = found_held slot e in (h.below k.0 k.1 k.2 slot k.3.0).1

  -- a telling whose holder's slot isn't found is over
  over : (t : Telling) → Contains v.told t → t.port ≡ port → slot_in n ≢ Some t.slot → TellingIsOver (draws_in words) views t
  over t m same other =
      let s = h.told id v here t m in (
        s.0,
        λ j u at is.
            let k = s.1 j u at is in
            dite (ℕ_discrete u.releases t.releases)
            (λ e. absurd (other (slot_at n t.slot ((h.ports port t.slot small).1 (j, u, at, (is, k.1 e ∙ ap Some same))))))
            (λ ne. let q = k.0 in omega arith),
      )

  -- the seat that holds the port has its slot alone, and has claimed the port
  owned : (slot : ℕ) → slot_in n ≡ Some slot → OfHolder (draws_in words) views slot (HasClaimed port slot)
  owned slot e =
      let k = found_held slot e in (
        (h.below k.0 k.1 k.2 slot k.3.0).0,
        λ j u at is.
            let place = h.apart j k.0 u k.1 slot at k.2 is k.3.0 in
            let same : k.1 ≡ u = some-injective _ _ (sym k.2 ∙ (ap (get_elem? views) (sym place) ∙ at)) in
            subst (HasClaimed port slot) same (h.claimed k.0 k.1 k.2 port slot k.3),
      )

  fits : LooksFit (draws_in words) views port (slot_in n) v.told
  fits = record {
    claimed = λ slot e. let k = found_held slot e in (k.0, k.1, k.2, h.claimed k.0 k.1 k.2 port slot k.3);
    owned = owned;
    past = over;
  }

  pub looks_at : Shared slots words (set views id w)
  looks_at =
      stepped_one slots words words views id v w h here h.size
      (ports_same words words views id v w here (λ q low. refl) (λ q s k. k) (λ q s k. k) h.ports)
      record { draws = refl; seats = refl; few = h.few id v here }
      record {
        rises = omega arith;
        slot = λ s e. inl (e, inr (refl, λ p q. q));
        claimed = λ p s k. Contains-append_left v.steps _ _ (h.claimed id v here p s k);
        claims = λ p s k. (id, w, at_here views id v w here, Contains-append_left v.steps _ _ k);
        owns = λ p s e k. Contains-append_left v.steps _ _ k;
        told = λ t m. h.told id v here t m;
        looked = λ p found told m. ⊎_elim
            (λ was. h.looked id v here p found told was)
            (λ (same : Looked port (slot_in n) v.told ≡ Looked p found told).
            let a : port ≡ p = cc in
            let b : slot_in n ≡ found = cc in
            let d : v.told ≡ told = cc in
            subst (λ (x : List Telling). LooksFit (draws_in words) views p found x) d (subst (λ (x : Option ℕ). LooksFit (draws_in words) views p x v.told) b (subst (λ x. LooksFit (draws_in words) views x (slot_in n) v.told) a fits)))
            (Contains-push_cases v.steps (Looked port (slot_in n) v.told) (Looked p found told) m);
      }

pub looks : (slots homes id port : ℕ) (me : Me (Unit {0}) View) → port < 65536 → me.0.slots ≡ slots
    → Allows (Ruled slots) homes id me port (λ n. n) (λ found now. (now ≡ (after_look me.0 port (slot_in found), me.1)) × ((slot : ℕ) → slot_in found ≡ Some slot → slot < me.0.slots))
looks slots homes id port me small same s h size here small_word =
    let w = after_look me.0 port (slot_in (slice_index s.words port)) in (
      w,
      keeps,
      tt,
      subst (λ ws. Shared slots ws (set s.views id w)) (sym (set-get_or s.words port 0)) (looks_at slots s.words s.views id me.0 h here port small),
      (refl, λ slot e. subst (λ k. slot < k) (sym same) (found_below slots s.words s.views id me.0 h here port small slot e)),
    )

pub learns : (slots homes id : ℕ) (me : Me (Unit {0}) View) → me.0.slots ≡ slots
    → Allows (Ruled slots) homes id me 0 (λ n. n) (λ found now. (now ≡ me) × Taught me.0.slots me.0)
learns slots homes id me same s h size here small_word = (
  me.0,
  keeps,
  tt,
  subst (λ ws. Shared slots ws (set s.views id me.0)) (sym (set-get_or s.words 0 0)) (subst (Shared slots s.words) (sym (set_again s.views id me.0 here)) h),
  (refl, (s.words, s.views, subst (λ k. Shared k s.words s.views) (sym same) h, (id, me.0, here, refl))),
)
