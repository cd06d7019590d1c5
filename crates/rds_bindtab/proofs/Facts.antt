-- The rule without its words and totals, and what a change of one view has to meet so that it goes on to hold.
use Rattle.std.proofs.Common.{◌≡◌, ◌≢◌, ◌⊎◌, ℕ, ◌<◌, ◌≤◌, List, [], ◌∷◌, ◌++◌, set, Some, None, Option, sym, ap, ◌∙◌, subst, ⊎_elim, arith}
use Rattle.std.specs.Prelude.{Contains}
use mathlib.Core.Logic.{dite}
use mathlib.Core.Option.{some-injective}
use native.Mathlib.Decide.{ℕ_discrete}
use lib.ListN.{get_elem?}
use Rattle.atomic_table.proofs.Lists.{at_set, at_snoc}
use Rattle.rds_seats.specs.Views.{At, Has, Each}
use Rattle.rds_seats.specs.ViewLaws.{at_there, has_snoc}
use Rattle.rds_bindtab.specs.declared.view.View.{View}
use Rattle.rds_bindtab.specs.declared.view.Telling.{Telling}
use Rattle.rds_bindtab.specs.declared.view.Step.TheVariants.{Looked}
use Rattle.rds_bindtab.specs.Shared.{HoldsPort, HasClaimed, OfHolder, TellingStands, TellingIsOver, LooksFit}

pub record Facts (slots draws : ℕ) (views : List View) : Type 0 where
  pub apart : (i j : ℕ) (v w : View) (slot : ℕ) → At views i v → At views j w → v.slot ≡ Some slot → w.slot ≡ Some slot → i ≡ j
  pub below : Each views (λ v. (slot : ℕ) → v.slot ≡ Some slot → (slot < draws) × (slot < slots))
  pub claimed : Each views (λ v. (port slot : ℕ) → HoldsPort port slot v → HasClaimed port slot v)
  pub told : Each views (λ v. (t : Telling) → Contains v.told t → TellingStands draws views t)
  pub looked : Each views (λ v. (port : ℕ) (found : Option ℕ) (told : List Telling) → Contains v.steps (Looked port found told) → LooksFit draws views port found told)

-- a seat that keeps its slot has released more ports, or as many, and then it holds what it held
abbrev pub Onward : View → View → Type 0
Onward v w = (v.releases < w.releases) ⊎ ((v.releases ≡ w.releases) × ((port : ℕ) → v.port ≡ Some port → w.port ≡ Some port))

-- v becomes w while the draws rise to `now`
pub record Change (slots draws now : ℕ) (before after : List View) (v w : View) : Type 0 where
  pub rises : draws ≤ now
  pub slot : (slot : ℕ) → w.slot ≡ Some slot → ((v.slot ≡ Some slot) × Onward v w) ⊎ ((draws ≤ slot) × (slot < now) × (slot < slots))
  pub claimed : (port slot : ℕ) → HoldsPort port slot w → HasClaimed port slot w
  pub claims : (port slot : ℕ) → HasClaimed port slot v → Has after (HasClaimed port slot)
  pub owns : (port slot : ℕ) → w.slot ≡ Some slot → HasClaimed port slot v → HasClaimed port slot w
  pub told : (t : Telling) → Contains w.told t → TellingStands draws before t
  pub looked : (port : ℕ) (found : Option ℕ) (told : List Telling) → Contains w.steps (Looked port found told) → LooksFit draws before port found told

module _ (slots draws now : ℕ) (views : List View) (id : ℕ) (v w : View) (f : Facts slots draws views) (here : At views id v) (c : Change slots draws now views (set views id w) v w) where
  abbrev after : List View
  after = set views id w

  -- what is said of a holder among the views before is said of it after
  of_holder : (P Q : View → Type 0) (slot : ℕ) → ((h : View) → P h → Q h) → (w.slot ≡ Some slot → P v → Onward v w → Q w) → OfHolder draws views slot P → OfHolder now after slot Q
  of_holder P Q slot onward mine h = (
    (let r = c.rises in let b = h.0 in omega arith),
    (λ j u at is. ⊎_elim
        (λ (t : (j ≡ id) × (w ≡ u)). subst Q t.1 (⊎_elim
        (λ (k : (v.slot ≡ Some slot) × Onward v w). mine (ap (λ (x : View). x.slot) t.1 ∙ is) (h.1 id v here k.0) k.1)
        (λ (k : (draws ≤ slot) × (slot < now) × (slot < slots)). absurd (let b = h.0 in omega arith))
        (c.slot slot (ap (λ (x : View). x.slot) t.1 ∙ is))))
        (λ (t : (j ≢ id) × At views j u). onward u (h.1 j u t.1 is))
        (at_set views id j w u at)),
  )

  stands_on : (t : Telling) → TellingStands draws views t → TellingStands now after t
  stands_on t = of_holder
      (λ h. (t.releases ≤ h.releases) × (h.releases ≡ t.releases → h.port ≡ Some t.port))
      (λ h. (t.releases ≤ h.releases) × (h.releases ≡ t.releases → h.port ≡ Some t.port))
      t.slot
      (λ h p. p)
      (λ _ p o. ⊎_elim
      (λ (more : v.releases < w.releases). ((let q = p.0 in omega arith), (λ same. absurd (let q = p.0 in omega arith))))
      (λ (k : (v.releases ≡ w.releases) × ((port : ℕ) → v.port ≡ Some port → w.port ≡ Some port)). ((let q = p.0 in let e = k.0 in omega arith), (λ same. k.1 t.port (p.1 (k.0 ∙ same)))))
      o)

  over_on : (t : Telling) → TellingIsOver draws views t → TellingIsOver now after t
  over_on t = of_holder (λ h. t.releases < h.releases) (λ h. t.releases < h.releases) t.slot (λ h p. p) (λ _ p o. ⊎_elim (λ (more : v.releases < w.releases). omega arith) (λ (k : (v.releases ≡ w.releases) × ((port : ℕ) → v.port ≡ Some port → w.port ≡ Some port)). let e = k.0 in omega arith) o)

  has_on : (port slot : ℕ) → Has views (HasClaimed port slot) → Has after (HasClaimed port slot)
  has_on port slot h = dite (ℕ_discrete h.0 id)
      (λ same. c.claims port slot (subst (HasClaimed port slot) (some-injective _ _ (sym h.2 ∙ (ap (get_elem? views) same ∙ here))) h.3))
      (λ apart. (h.0, h.1, at_there views id h.0 h.1 w apart h.2, h.3))

  owned_on : (port slot : ℕ) → OfHolder draws views slot (HasClaimed port slot) → OfHolder now after slot (HasClaimed port slot)
  owned_on port slot = of_holder (HasClaimed port slot) (HasClaimed port slot) slot (λ h p. p) (λ is p o. c.owns port slot is p)

  fits_on : (port : ℕ) (found : Option ℕ) (told : List Telling) → LooksFit draws views port found told → LooksFit now after port found told
  fits_on port found told k = record { claimed = λ slot e. has_on port slot (k.claimed slot e); owned = λ slot e. owned_on port slot (k.owned slot e); past = λ t m e n. over_on t (k.past t m e n) }

  alone : (j : ℕ) (u : View) (slot : ℕ) → j ≢ id → At views j u → w.slot ≡ Some slot → u.slot ≡ Some slot → ⊥
  alone j u slot apart at mine theirs = ⊎_elim
      (λ (k : (v.slot ≡ Some slot) × Onward v w). apart (f.apart j id u v slot at here theirs k.0))
      (λ (k : (draws ≤ slot) × (slot < now) × (slot < slots)). let b = f.below j u at slot theirs in absurd (let q = b.0 in let r = k.0 in omega arith))
      (c.slot slot mine)

  apart_on : (i j : ℕ) (a b : View) (slot : ℕ) → At after i a → At after j b → a.slot ≡ Some slot → b.slot ≡ Some slot → i ≡ j
  apart_on i j a b slot ea eb ha hb = ⊎_elim
      (λ (x : (i ≡ id) × (w ≡ a)). ⊎_elim
      (λ (y : (j ≡ id) × (w ≡ b)). x.0 ∙ sym y.0)
      (λ (y : (j ≢ id) × At views j b). absurd (alone j b slot y.0 y.1 (ap (λ (z : View). z.slot) x.1 ∙ ha) hb))
      (at_set views id j w b eb))
      (λ (x : (i ≢ id) × At views i a). ⊎_elim
      (λ (y : (j ≡ id) × (w ≡ b)). absurd (alone i a slot x.0 x.1 (ap (λ (z : View). z.slot) y.1 ∙ hb) ha))
      (λ (y : (j ≢ id) × At views j b). f.apart i j a b slot x.1 y.1 ha hb)
      (at_set views id j w b eb))
      (at_set views id i w a ea)

  -- what holds of the changed seat and, of the others, after what held before, holds of each
  each_on : (P Q : View → Type 0) → Each views P → ((u : View) → P u → Q u) → Q w → Each after Q
  each_on P Q all onward mine j u at = ⊎_elim
      (λ (t : (j ≡ id) × (w ≡ u)). subst Q t.1 mine)
      (λ (t : (j ≢ id) × At views j u). onward u (all j u t.1))
      (at_set views id j w u at)

  pub facts_set : Facts slots now after
  facts_set = record {
    apart = apart_on;
    below = each_on _ _ f.below (λ u p slot e. let b = p slot e in ((let q = b.0 in let r = c.rises in omega arith), b.1)) (λ slot e. ⊎_elim
        (λ (k : (v.slot ≡ Some slot) × Onward v w). let b = f.below id v here slot k.0 in ((let q = b.0 in let r = c.rises in omega arith), b.1))
        (λ (k : (draws ≤ slot) × (slot < now) × (slot < slots)). (k.1, k.2))
        (c.slot slot e));
    claimed = each_on _ _ f.claimed (λ u p. p) c.claimed;
    told = each_on _ _ f.told (λ u p t m. stands_on t (p t m)) (λ t m. stands_on t (c.told t m));
    looked = each_on _ _ f.looked (λ u p port found told m. fits_on port found told (p port found told m)) (λ port found told m. fits_on port found told (c.looked port found told m));
  }

-- a new seat or note without a slot, which was told and has seen no more than what others were told and saw
module _ (slots draws : ℕ) (views : List View) (u : View) (f : Facts slots draws views) (none : u.slot ≡ None) where
  abbrev more : List View
  more = views ++ u ∷ []

  unseated : (slot : ℕ) → u.slot ≡ Some slot → ⊥
  unseated slot e = cc

  of_holder_more : (P : View → Type 0) (slot : ℕ) → OfHolder draws views slot P → OfHolder draws more slot P
  of_holder_more P slot h = (h.0, λ j x at is. ⊎_elim (λ was. h.1 j x was is) (λ (same : u ≡ x). absurd (unseated slot (ap (λ (z : View). z.slot) same ∙ is))) (at_snoc views u x j at))

  fits_more : (port : ℕ) (found : Option ℕ) (told : List Telling) → LooksFit draws views port found told → LooksFit draws more port found told
  fits_more port found told k = record { claimed = λ slot e. has_snoc (HasClaimed port slot) views u (k.claimed slot e); owned = λ slot e. of_holder_more (HasClaimed port slot) slot (k.owned slot e); past = λ t m e n. of_holder_more (λ h. t.releases < h.releases) t.slot (k.past t m e n) }

  stands_more : (t : Telling) → TellingStands draws views t → TellingStands draws more t
  stands_more t = of_holder_more (λ h. (t.releases ≤ h.releases) × (h.releases ≡ t.releases → h.port ≡ Some t.port)) t.slot

  apart_more : (i j : ℕ) (a b : View) (slot : ℕ) → At more i a → At more j b → a.slot ≡ Some slot → b.slot ≡ Some slot → i ≡ j
  apart_more i j a b slot ea eb ha hb = ⊎_elim
      (λ was. ⊎_elim (λ was'. f.apart i j a b slot was was' ha hb) (λ (same : u ≡ b). absurd (unseated slot (ap (λ (z : View). z.slot) same ∙ hb))) (at_snoc views u b j eb))
      (λ (same : u ≡ a). absurd (unseated slot (ap (λ (z : View). z.slot) same ∙ ha)))
      (at_snoc views u a i ea)

  each_more : (P Q : View → Type 0) → Each views P → ((x : View) → P x → Q x) → Q u → Each more Q
  each_more P Q all onward mine j x at = ⊎_elim (λ was. onward x (all j x was)) (λ (same : u ≡ x). subst Q same mine) (at_snoc views u x j at)

  pub facts_snoc : ((t : Telling) → Contains u.told t → TellingStands draws views t)
      → ((port : ℕ) (found : Option ℕ) (told : List Telling) → Contains u.steps (Looked port found told) → LooksFit draws views port found told)
      → Facts slots draws more
  facts_snoc tells sees = record {
    apart = apart_more;
    below = each_more _ _ f.below (λ x p. p) (λ slot e. absurd (unseated slot e));
    claimed = each_more _ _ f.claimed (λ x p. p) (λ port slot h. absurd (unseated slot h.0));
    told = each_more _ _ f.told (λ x p t m. stands_more t (p t m)) (λ t m. stands_more t (tells t m));
    looked = each_more _ _ f.looked (λ x p port found told m. fits_more port found told (p port found told m)) (λ port found told m. fits_more port found told (sees port found told m));
  }
