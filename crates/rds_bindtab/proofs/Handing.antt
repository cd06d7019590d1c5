-- A seat that hands its slot over to a new one keeps the rule.
use Rattle.std.proofs.Common.{◌≡◌, ◌≢◌, ◌⊎◌, ℕ, zero, suc, ◌+◌, ◌*◌, ◌<◌, ◌≤◌, List, [], ◌∷◌, ◌++◌, length, set, Some, None, Option, refl, sym, ap, ◌∙◌, subst, inl, inr, ⊎_elim, arith}
use mathlib.Core.Option.{some-ne-none, some-injective}
use Rattle.atomic_table.specs.Table.{Splits}
use Rattle.atomic_table.proofs.Lists.{at_set}
use Rattle.rds_seats.specs.Views.{At, Has, Each}
use Rattle.rds_seats.specs.ViewLaws.{has_set, has_unset, has_snoc, has_unsnoc, each_set, each_snoc, total_set, total_snoc}
use Rattle.rds_bindtab.specs.declared.view.View.{View}
use Rattle.rds_bindtab.specs.declared.view.Telling.{Telling}
use Rattle.rds_bindtab.specs.Seats.{without_slot, with_slot_of}
use Rattle.rds_bindtab.specs.Shared.{Shared, Ruled, HoldsPort, HasClaimed, OfHolder, TellingStands, LooksFit}
use Rattle.rds_bindtab.proofs.Facts.{Facts}
use Rattle.rds_bindtab.proofs.Words.{Ports, draws_in, shared_of}

-- what stands at a place of a longer list stood there, or is the new one at the end
at_end : (views : List View) (u x : View) (i : ℕ) → At (views ++ u ∷ []) i x → At views i x ⊎ ((i ≡ length views) × (u ≡ x))
at_end [] u x zero e = inr (refl, some-injective u x e)
at_end [] u x (suc i) e = absurd (some-ne-none x (sym e))
at_end (y ∷ views) u x zero e = inl e
at_end (y ∷ views) u x (suc i) e = ⊎_elim (λ was. inl was) (λ t. inr (ap suc t.0, t.1)) (at_end views u x i e)

module _ (slots : ℕ) (words : List ℕ) (views : List View) (id : ℕ) (v : View) (h : Shared slots words views) (here : At views id v) (unported : v.port ≡ None) where
  abbrev d : ℕ
  d = draws_in words

  abbrev w : View
  w = without_slot v

  abbrev u : View
  u = with_slot_of v

  abbrev left : List View
  left = set views id w

  abbrev both : List View
  both = left ++ u ∷ []

  -- who has a slot now: a seat that had it, or the new one, which has that of v
  has_slot : (slot j : ℕ) (x : View) → At both j x → x.slot ≡ Some slot → ((j ≢ id) × At views j x) ⊎ ((j ≡ length left) × (u ≡ x))
  has_slot slot j x at is = ⊎_elim
      (λ was. ⊎_elim
      (λ (t : (j ≡ id) × (w ≡ x)). absurd (let e : None ≡ Some slot = ap (λ (z : View). z.slot) t.1 ∙ is in cc))
      (λ (t : (j ≢ id) × At views j x). inl t)
      (at_set views id j w x was))
      (λ t. inr t)
      (at_end left u x j at)

  of_holder : (P : View → Type 0) (slot : ℕ) → (P v → P u) → OfHolder d views slot P → OfHolder d both slot P
  of_holder P slot mine k = (
    k.0,
    (λ j x at is. ⊎_elim
        (λ (t : (j ≢ id) × At views j x). k.1 j x t.1 is)
        (λ (t : (j ≡ length left) × (u ≡ x)). subst P t.1 (mine (k.1 id v here (ap (λ (z : View). z.slot) t.1 ∙ is))))
        (has_slot slot j x at is)),
  )

  stands : (t : Telling) → TellingStands d views t → TellingStands d both t
  stands t = of_holder (λ x. (t.releases ≤ x.releases) × (x.releases ≡ t.releases → x.port ≡ Some t.port)) t.slot (λ p. p)

  still_claimed : (port slot : ℕ) → Has views (HasClaimed port slot) → Has both (HasClaimed port slot)
  still_claimed port slot k = has_snoc (HasClaimed port slot) left u (has_set (HasClaimed port slot) views id v w here (λ p. p) k)

  fits : (port : ℕ) (found : Option ℕ) (told : List Telling) → LooksFit d views port found told → LooksFit d both port found told
  fits port found told k = record {
    claimed = λ slot e. still_claimed port slot (k.claimed slot e);
    owned = λ slot e. of_holder (HasClaimed port slot) slot (λ p. p) (k.owned slot e);
    past = λ t m e n. of_holder (λ x. t.releases < x.releases) t.slot (λ p. p) (k.past t m e n);
  }

  -- what holds of each view, and hangs on nothing but what w and u have of v, holds of each still
  each_both : (P Q : View → Type 0) → Each views P → ((x : View) → P x → Q x) → Q w → Q u → Each both Q
  each_both P Q all onward first new = each_snoc Q Q left u (each_set P Q views id w all onward first) (λ x p. p) new

  apart : (i j : ℕ) (a b : View) (slot : ℕ) → At both i a → At both j b → a.slot ≡ Some slot → b.slot ≡ Some slot → i ≡ j
  apart i j a b slot ea eb ha hb = ⊎_elim
      (λ (x : (i ≢ id) × At views i a). ⊎_elim
      (λ (y : (j ≢ id) × At views j b). h.apart i j a b slot x.1 y.1 ha hb)
      (λ (y : (j ≡ length left) × (u ≡ b)). absurd (x.0 (h.apart i id a v slot x.1 here ha (ap (λ (z : View). z.slot) y.1 ∙ hb))))
      (has_slot slot j b eb hb))
      (λ (x : (i ≡ length left) × (u ≡ a)). ⊎_elim
      (λ (y : (j ≢ id) × At views j b). absurd (y.0 (h.apart j id b v slot y.1 here hb (ap (λ (z : View). z.slot) x.1 ∙ ha))))
      (λ (y : (j ≡ length left) × (u ≡ b)). x.0 ∙ sym y.0)
      (has_slot slot j b eb hb))
      (has_slot slot i a ea ha)

  facts : Facts slots d both
  facts = record {
    apart = apart;
    below = each_both _ _ h.below (λ x p. p) (λ slot e. absurd (cc)) (h.below id v here);
    claimed = each_both _ _ h.claimed (λ x p. p) (λ port slot k. absurd (let e = k.0 in cc)) (h.claimed id v here);
    told = each_both _ _ h.told (λ x p t m. stands t (p t m)) (λ t m. stands t (h.told id v here t m)) (λ t m. stands t (h.told id v here t m));
    looked = each_both _ _ h.looked (λ x p port found told m. fits port found told (p port found told m))
        (λ port found told m. fits port found told (h.looked id v here port found told m))
        (λ port found told m. fits port found told (h.looked id v here port found told m));
  }

  without_port : (port slot : ℕ) (x : View) → x.port ≡ None → HoldsPort port slot x → ⊥
  without_port port slot x none k = let e : None ≡ Some port = sym none ∙ k.1 in cc

  ports : Ports words both
  ports port slot small =
      let P = HoldsPort port slot in
      let k = h.ports port slot small in (
        (λ e. has_snoc P left u (has_set P views id v w here (λ p. absurd (without_port port slot v unported p)) (k.0 e))),
        (λ q. k.1 (has_unset P views id w (λ p. absurd (without_port port slot w unported p)) (has_unsnoc P left u (λ p. absurd (without_port port slot u unported p)) q))),
      )

  pub handed : Shared slots words both
  handed = shared_of slots words both h.size ports
      (let t = total_snoc (λ (x : View). x.draws) left u in let r = total_set (λ (x : View). x.draws) views id v w here in let e = h.drawn in omega arith)
      (let t = total_snoc (λ (x : View). x.weight + x.splits) left u in let r = total_set (λ (x : View). x.weight + x.splits) views id v w here in let e = h.seated in omega arith)
      (each_both _ (λ x. x.draws ≤ x.weight * 2147483648) h.few (λ x p. p) (h.few id v here) (omega arith))
      facts

pub hands_over : (slots id : ℕ) (v : View) → v.port ≡ None → Splits (Ruled slots) id v (without_slot v) (with_slot_of v)
hands_over slots id v unported s h here = handed slots s.words s.views id v h here unported
