-- A claim and a release keep the rule.
use Rattle.std.proofs.Common.{◌≡◌, ◌≢◌, ℕ, ◌+◌, ◌<◌, List, [], ◌∷◌, ◌++◌, length, set, Some, None, Option, eqb, ne_eqb, cond, Bool, false, refl, sym, ap, ◌∙◌, subst, inl, inr, ⊎_elim, arith}
use Rattle.std.proofs.lemmas.List.{get_or-set_same, get_or-set_other, length-set, set-get_or}
use Rattle.std.proofs.lemmas.List.Elements.{Contains-push, Contains-push_cases}
use Rattle.std.specs.Prelude.{◌↔◌, slice_index, Contains, unwrap_or}
use mathlib.Core.Logic.{dite}
use native.Mathlib.Decide.{ℕ_discrete}
use prog.Atomic.{either}
use Rattle.atomic_table.specs.Table.{Me, Allows, keeps}
use Rattle.atomic_table.proofs.Lists.{at_set}
use Rattle.rds_seats.specs.Views.{At, Has}
use Rattle.rds_seats.specs.ViewLaws.{at_here, has_set, has_unset}
use Rattle.rds_bindtab.specs.declared.view.View.{View}
use Rattle.rds_bindtab.specs.declared.view.Telling.{Telling}
use Rattle.rds_bindtab.specs.declared.view.Step.{Step}
use Rattle.rds_bindtab.specs.declared.view.Step.TheVariants.{Claimed, Released, Looked}
use Rattle.rds_bindtab.specs.Seats.{after_exchange, after_release, slot_of, port_of}
use Rattle.rds_bindtab.specs.Shared.{Shared, Ruled, HoldsPort}
use Rattle.rds_bindtab.proofs.Facts.{Facts, Change}
use Rattle.rds_bindtab.proofs.Words.{Ports, draws_in, stepped_one, ports_same, facts_of, claimed_still}

-- the word of one port is set, and the seat's holdings of other ports stay
ports_at : (words : List ℕ) (views : List View) (id n port : ℕ) (v w : View) → length words ≡ 65537 → port < 65536 → At views id v → Ports words views
    → ((q slot : ℕ) → q ≢ port → HoldsPort q slot v → HoldsPort q slot w) → ((q slot : ℕ) → q ≢ port → HoldsPort q slot w → HoldsPort q slot v)
    → ((slot : ℕ) → (n ≡ 1 + slot) ↔ Has (set views id w) (HoldsPort port slot)) → Ports (set words port n) (set views id w)
ports_at words views id n port v w size small here p onward back mine q slot low = dite (ℕ_discrete q port)
    (λ same.
    let at : slice_index (set words port n) q ≡ n = ap (λ k. slice_index (set words port n) k) same ∙ get_or-set_same words port n 0 (omega arith) in
    let m = mine slot in (
      (λ e. subst (λ k. Has (set views id w) (HoldsPort k slot)) (sym same) (m.0 (sym at ∙ e))),
      (λ h. at ∙ m.1 (subst (λ k. Has (set views id w) (HoldsPort k slot)) same h)),
    ))
    (λ apart.
    let at : slice_index (set words port n) q ≡ slice_index words q = get_or-set_other words port q n 0 apart in
    let o = p q slot low in (
      (λ e. has_set (HoldsPort q slot) views id v w here (onward q slot apart) (o.0 (sym at ∙ e))),
      (λ h. at ∙ o.1 (has_unset (HoldsPort q slot) views id w (λ k. (id, v, here, back q slot apart k)) h)),
    ))

-- a claim or a release is no look
claimed_looked : (v : View) (q s n port : ℕ) (found : Option ℕ) (told : List Telling) → Contains (v.steps ++ Claimed q s n ∷ []) (Looked port found told) → Contains v.steps (Looked port found told)
claimed_looked v q s n port found told m = ⊎_elim (λ was. was) (λ same. absurd (cc)) (Contains-push_cases v.steps (Claimed q s n) (Looked port found told) m)

released_looked : (v : View) (q port : ℕ) (found : Option ℕ) (told : List Telling) → Contains (v.steps ++ Released q ∷ []) (Looked port found told) → Contains v.steps (Looked port found told)
released_looked v q port found told m = ⊎_elim (λ was. was) (λ same. absurd (cc)) (Contains-push_cases v.steps (Released q) (Looked port found told) m)

slot_is : (v : View) (s : ℕ) → v.slot ≡ Some s → slot_of v ≡ s
slot_is v s e = ap (λ o. unwrap_or o 0) e

some_same : (a b : ℕ) → Some a ≡ Some b → a ≡ b
some_same a b e = cc

module _ (slots : ℕ) (words : List ℕ) (views : List View) (id : ℕ) (v : View) (h : Shared slots words views) (here : At views id v) (port : ℕ) (small : port < 65536) where
  abbrev d : ℕ
  d = draws_in words

  f : Facts slots d views
  f = facts_of slots words views h

  draws_stay : (n : ℕ) → draws_in (set words port n) ≡ d
  draws_stay n = get_or-set_other words port 65536 n 0 (λ e. omega arith)

  -- the exchange found 0: the seat holds the port
  abbrev holder : View
  holder = record v { port = Some port; steps = v.steps ++ Claimed port (slot_of v) 0 ∷ [] }

  holder_change : (slot : ℕ) → v.slot ≡ Some slot → v.port ≡ None → Change slots d d views (set views id holder) v holder
  holder_change slot seated free = record {
    rises = omega arith;
    slot = λ s e. inl (e, inr (refl, λ p q. absurd (cc)));
    claimed = λ p s k.
        let q : port ≡ p = some_same port p k.1 in
        let r : slot_of v ≡ s = slot_is v s k.0 in
        subst (λ (x : Step). Contains (v.steps ++ Claimed port (slot_of v) 0 ∷ []) x) (λ i. Claimed (q i) (r i) 0) (Contains-push v.steps (Claimed port (slot_of v) 0));
    claims = λ p s k. (id, holder, at_here views id v holder here, claimed_still p s v (Claimed port (slot_of v) 0) k);
    owns = λ p s e k. claimed_still p s v (Claimed port (slot_of v) 0) k;
    told = λ t m. f.told id v here t m;
    looked = λ p found told m. f.looked id v here p found told (claimed_looked v port (slot_of v) 0 p found told m);
  }

  holder_ports : (slot : ℕ) → v.slot ≡ Some slot → v.port ≡ None → slice_index words port ≡ 0 → Ports (set words port (1 + slot)) (set views id holder)
  holder_ports slot seated free zero = ports_at words views id (1 + slot) port v holder h.size small here h.ports
      (λ q s apart k. absurd (let p = k.1 in cc))
      (λ q s apart k. absurd (apart (sym (some_same port q k.1))))
      (λ s. (
        (λ e. (id, holder, at_here views id v holder here, (seated ∙ ap Some (let z : slot ≡ s = omega arith in z), refl))),
        (λ k. ⊎_elim
            (λ (t : (k.0 ≡ id) × (holder ≡ k.1)). let own : v.slot ≡ Some s = ap (λ (x : View). x.slot) t.1 ∙ k.3.0 in ap (λ z. 1 + z) (some_same slot s (sym seated ∙ own)))
            (λ (t : (k.0 ≢ id) × At views k.0 k.1). absurd (let e = (h.ports port s small).1 (k.0, k.1, t.1, k.3) in omega arith))
            (at_set views id k.0 holder k.1 k.2)),
      ))

  claims : (slot : ℕ) → v.slot ≡ Some slot → v.port ≡ None → slice_index words port ≡ 0 → Shared slots (set words port (1 + slot)) (set views id holder)
  claims slot seated free zero =
      let after = set words port (1 + slot) in
      let stay = draws_stay (1 + slot) in
      stepped_one slots words after views id v holder h here (length-set words port (1 + slot) ∙ h.size) (holder_ports slot seated free zero)
      record { draws = (let e = stay in omega arith); seats = refl; few = h.few id v here }
      (subst (λ k. Change slots d k views (set views id holder) v holder) (sym stay) (holder_change slot seated free))

  -- the exchange found another number: the seat has made one step more
  abbrev refused : ℕ → View
  refused n = record v { port = None; steps = v.steps ++ Claimed port (slot_of v) n ∷ [] }

  refuses : (n : ℕ) → n ≢ 0 → v.port ≡ None → Shared slots words (set views id (refused n))
  refuses n held free =
      let w = refused n in
      stepped_one slots words words views id v w h here h.size
      (ports_same words words views id v w here (λ q low. refl) (λ q s k. (k.0, sym free ∙ k.1)) (λ q s k. (k.0, free ∙ k.1)) h.ports)
      record { draws = refl; seats = refl; few = h.few id v here }
      record {
        rises = omega arith;
        slot = λ s e. inl (e, inr (refl, λ p q. sym free ∙ q));
        claimed = λ p s k. absurd (let q = k.1 in cc);
        claims = λ p s k. (id, w, at_here views id v w here, claimed_still p s v (Claimed port (slot_of v) n) k);
        owns = λ p s e k. claimed_still p s v (Claimed port (slot_of v) n) k;
        told = λ t m. f.told id v here t m;
        looked = λ p found told m. f.looked id v here p found told (claimed_looked v port (slot_of v) n p found told m);
      }

  abbrev releaser : View
  releaser = after_release v

  releases : (slot : ℕ) → v.slot ≡ Some slot → v.port ≡ Some port → Shared slots (set words port 0) (set views id releaser)
  releases slot seated holds =
      let w = releaser in
      let after = set words port 0 in
      let stay = draws_stay 0 in
      let mine : slice_index words port ≡ 1 + slot = (h.ports port slot small).1 (id, v, here, (seated, holds)) in
      stepped_one slots words after views id v w h here (length-set words port 0 ∙ h.size)
      (ports_at words views id 0 port v w h.size small here h.ports
      (λ q s apart k. absurd (apart (sym (some_same port q (sym holds ∙ k.1)))))
      (λ q s apart k. absurd (let p = k.1 in cc))
      (λ s. (
        (λ e. absurd (omega arith)),
        (λ k. ⊎_elim
            (λ (t : (k.0 ≡ id) × (w ≡ k.1)). absurd (let p : None ≡ Some port = ap (λ (x : View). x.port) t.1 ∙ k.3.1 in cc))
            (λ (t : (k.0 ≢ id) × At views k.0 k.1).
            let theirs = (h.ports port s small).1 (k.0, k.1, t.1, k.3) in
            let same : s ≡ slot = omega arith in
            absurd (t.0 (h.apart k.0 id k.1 v slot t.1 here (k.3.0 ∙ ap Some same) seated)))
            (at_set views id k.0 w k.1 k.2)),
      )))
      record { draws = (let e = stay in omega arith); seats = refl; few = h.few id v here }
      (subst (λ k. Change slots d k views (set views id w) v w) (sym stay) record {
        rises = omega arith;
        slot = λ s e. inl (e, inl (omega arith));
        claimed = λ p s k. absurd (let q = k.1 in cc);
        claims = λ p s k. (id, w, at_here views id v w here, claimed_still p s v (Released (port_of v)) k);
        owns = λ p s e k. claimed_still p s v (Released (port_of v)) k;
        told = λ t m. f.told id v here t m;
        looked = λ p found told m. f.looked id v here p found told (released_looked v (port_of v) p found told m);
      })

-- by what the exchange found
pub exchanges : (slots homes id port slot : ℕ) (me : Me (Unit {0}) View) → port < 65536 → me.0.slot ≡ Some slot → me.0.port ≡ None
    → Allows (Ruled slots) homes id me port (λ n. either (eqb n 0) (1 + slot) n) (λ found now. now ≡ (after_exchange me.0 port found, me.1))
exchanges slots homes id port slot me small seated free s h size here fits =
    let n = slice_index s.words port in
    let P : ℕ → Type 0 = λ k. Shared slots (set s.words port (either (eqb k 0) (1 + slot) k)) (set s.views id (after_exchange me.0 port k)) in
    let hit : n ≡ 0 → P n = λ e. subst P (sym e) (claims slots s.words s.views id me.0 h here port small slot seated free e) in
    let miss : n ≢ 0 → P n = λ ne.
    let b : eqb n 0 ≡ false = ne_eqb n 0 ne in
    let back : set s.words port n ≡ s.words = set-get_or s.words port 0 in
    subst (λ (k : Bool). Shared slots (set s.words port (either k (1 + slot) n)) (set s.views id (record me.0 { port = cond k (Some port) None; steps = me.0.steps ++ Claimed port (slot_of me.0) n ∷ [] }))) (sym b)
    (subst (λ ws. Shared slots ws (set s.views id (refused slots s.words s.views id me.0 h here port small n))) (sym back) (refuses slots s.words s.views id me.0 h here port small n ne free)) in
    (after_exchange me.0 port n, keeps, tt, dite (ℕ_discrete n 0) hit miss, refl)

pub releases_port : (slots homes id port slot : ℕ) (me : Me (Unit {0}) View) → port < 65536 → me.0.slot ≡ Some slot → me.0.port ≡ Some port
    → Allows (Ruled slots) homes id me port (λ _. 0) (λ _ now. now ≡ (after_release me.0, me.1))
releases_port slots homes id port slot me small seated holds s h size here fits =
    (after_release me.0, keeps, tt, releases slots s.words s.views id me.0 h here port small slot seated holds, refl)
