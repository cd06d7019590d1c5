-- A seat that is split off, and a note, keep the rule.
use Rattle.std.proofs.Common.{◌≡◌, ℕ, ◌+◌, ◌*◌, ◌≤◌, List, [], ◌∷◌, ◌++◌, set, Some, None, Option, refl, sym, ap, ◌∙◌, subst, inl, inr, ⊎_elim, arith}
use Rattle.std.specs.Prelude.{Contains, unwrap_or}
use Rattle.std.proofs.lemmas.List.Elements.{Contains-push_cases}
use mathlib.Core.Option.{some-injective}
use lib.ListN.{get_elem?}
use Rattle.atomic_table.specs.Table.{Splits}
use Rattle.atomic_table.proofs.Lists.{set_again}
use Rattle.rds_seats.specs.Views.{At}
use Rattle.rds_seats.specs.ViewLaws.{at_here, has_snoc, has_unsnoc, each_set, each_snoc, total_set, total_snoc}
use Rattle.rds_bindtab.specs.declared.view.View.{View}
use Rattle.rds_bindtab.specs.declared.view.Telling.{Telling}
use Rattle.rds_bindtab.specs.declared.view.Step.TheVariants.{Looked}
use Rattle.rds_bindtab.specs.Seats.{after_split, newcomer, note_of, note_of_steps, telling_of, slot_of, port_of}
use Rattle.rds_bindtab.specs.Shared.{Shared, Ruled, HoldsPort, TellingStands, LooksFit}
use Rattle.rds_bindtab.proofs.Facts.{Facts, facts_set, facts_snoc}
use Rattle.rds_bindtab.proofs.Words.{Ports, draws_in, facts_of, shared_of, ports_same}

pub nothing_in : {X : Type 0} (x : X) → Contains [] x → ⊥
nothing_in x m = let k = m.1 in omega arith

-- what a new seat or note brings: no slot, no draws, tellings that stand and looks that fit
pub record Newcomer (draws : ℕ) (views : List View) (u : View) : Type 0 where
  pub slot : u.slot ≡ None
  pub draws_none : u.draws ≡ 0
  pub told : (t : Telling) → Contains u.told t → TellingStands draws views t
  pub looked : (port : ℕ) (found : Option ℕ) (told : List Telling) → Contains u.steps (Looked port found told) → LooksFit draws views port found told

ports_more : (words : List ℕ) (views : List View) (u : View) → u.slot ≡ None → Ports words views → Ports words (views ++ u ∷ [])
ports_more words views u none ports port slot small =
    let p = ports port slot small in
    ((λ e. has_snoc (HoldsPort port slot) views u (p.0 e)), (λ h. p.1 (has_unsnoc (HoldsPort port slot) views u (λ k. absurd (let q = k.0 in cc)) h)))

-- a note is added to the views, and stands for no seat
noted : (slots : ℕ) (words : List ℕ) (views : List View) (u : View) → Shared slots words views → Newcomer (draws_in words) views u → u.weight ≡ 0 → u.splits ≡ 0 → Shared slots words (views ++ u ∷ [])
noted slots words views u h n light whole =
    shared_of slots words (views ++ u ∷ []) h.size (ports_more words views u n.slot h.ports)
    (let t = total_snoc (λ (x : View). x.draws) views u in let d = h.drawn in let e = n.draws_none in omega arith)
    (let t = total_snoc (λ (x : View). x.weight + x.splits) views u in let d = h.seated in omega arith)
    (each_snoc (λ x. x.draws ≤ x.weight * 2147483648) (λ x. x.draws ≤ x.weight * 2147483648) views u h.few (λ x p. p) (let e = n.draws_none in omega arith))
    (facts_snoc slots (draws_in words) views u (facts_of slots words views h) n.slot n.told n.looked)

-- the telling of a holder stands
telling_stands : (slots : ℕ) (words : List ℕ) (views : List View) (id slot port : ℕ) (v : View) → Shared slots words views → At views id v → v.slot ≡ Some slot → v.port ≡ Some port → TellingStands (draws_in words) views (telling_of v)
telling_stands slots words views id slot port v h here seated holds =
    let s : slot_of v ≡ slot = ap (λ (o : Option ℕ). unwrap_or o 0) seated in
    let p : port_of v ≡ port = ap (λ (o : Option ℕ). unwrap_or o 0) holds in (
      (let b = (h.below id v here slot seated).0 in omega arith),
      λ j u at is.
          let place : j ≡ id = h.apart j id u v slot at here (is ∙ ap Some s) seated in
          let same : v ≡ u = at_one views j id v u place here at in
          ((let e : v.releases ≡ u.releases = ap (λ (x : View). x.releases) same in omega arith), λ _. sym (ap (λ (x : View). x.port) same) ∙ (holds ∙ ap Some (sym p))),
    )
  where
    at_one : (views : List View) (j i : ℕ) (a b : View) → j ≡ i → At views i a → At views j b → a ≡ b
    at_one views j i a b e x y = some-injective _ _ (sym x ∙ (ap (get_elem? views) (sym e) ∙ y))

only_one : {X : Type 0} (x y : X) → Contains (x ∷ []) y → x ≡ y
only_one x y m = ⊎_elim (λ none. absurd (nothing_in y none)) (λ e. e) (Contains-push_cases [] x y m)

pub notes : (slots id slot port : ℕ) (v : View) → v.slot ≡ Some slot → v.port ≡ Some port → Splits (Ruled slots) id v v (note_of v)
notes slots id slot port v seated holds s h here =
    subst (λ l. Shared slots s.words (l ++ note_of v ∷ [])) (sym (set_again s.views id v here)) (noted slots s.words s.views (note_of v) h
    record {
      slot = refl;
      draws_none = refl;
      told = λ t m. subst (TellingStands (draws_in s.words) s.views) (only_one (telling_of v) t m) (telling_stands slots s.words s.views id slot port v h here seated holds);
      looked = λ p found told m. absurd (nothing_in (Looked p found told) m);
    }
    refl
    refl)

pub notes_steps : (slots id : ℕ) (v : View) → Splits (Ruled slots) id v v (note_of_steps v)
notes_steps slots id v s h here =
    subst (λ l. Shared slots s.words (l ++ note_of_steps v ∷ [])) (sym (set_again s.views id v here)) (noted slots s.words s.views (note_of_steps v) h
    record {
      slot = refl;
      draws_none = refl;
      told = λ t m. absurd (nothing_in t m);
      looked = λ p found told m. h.looked id v here p found told m;
    }
    refl
    refl)

pub splits_off : (slots id : ℕ) (v : View) → 1 ≤ v.splits → Splits (Ruled slots) id v (after_split v) (newcomer v)
splits_off slots id v room s h here =
    let words = s.words in
    let views = s.views in
    let w = after_split v in
    let u = newcomer v in
    let left = set views id w in
    let f = facts_of slots words views h in
    let d = draws_in words in
    let g : Facts slots d left = facts_set slots d d views id v w f here record {
      rises = omega arith;
      slot = λ k e. inl (e, inr (refl, λ p q. q));
      claimed = f.claimed id v here;
      claims = λ p k c. (id, w, at_here views id v w here, c);
      owns = λ p k e c. c;
      told = f.told id v here;
      looked = f.looked id v here;
    } in
    shared_of slots words (left ++ u ∷ []) h.size
    (ports_more words left u refl (ports_same words words views id v w here (λ q low. refl) (λ q k e. e) (λ q k e. e) h.ports))
    (let t = total_snoc (λ (x : View). x.draws) left u in let r = total_set (λ (x : View). x.draws) views id v w here in let e = h.drawn in omega arith)
    (let t = total_snoc (λ (x : View). x.weight + x.splits) left u in let r = total_set (λ (x : View). x.weight + x.splits) views id v w here in let e = h.seated in omega arith)
    (each_snoc (λ x. x.draws ≤ x.weight * 2147483648) (λ x. x.draws ≤ x.weight * 2147483648) left u (each_set (λ x. x.draws ≤ x.weight * 2147483648) (λ x. x.draws ≤ x.weight * 2147483648) views id w h.few (λ x p. p) (h.few id v here)) (λ x p. p) (omega arith))
    (facts_snoc slots d left u g refl (λ t m. absurd (nothing_in t m)) (λ p found told m. absurd (nothing_in (Looked p found told) m)))
