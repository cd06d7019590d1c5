-- A draw keeps the rule.
use Rattle.std.proofs.Common.{◌≡◌, ℕ, ◌+◌, ◌*◌, ◌%◌, ◌<◌, ◌≤◌, List, [], ◌∷◌, ◌++◌, set, Some, None, Option, nat_lt, cond, Bool, true, false, refl, sym, ◌∙◌, subst, inr, ⊎_elim, arith}
use Rattle.std.proofs.Math.Nat.{mod-eq_of_lt}
use Rattle.std.proofs.lemmas.List.{get_or-set_same, get_or-set_other, length-set}
use Rattle.std.proofs.lemmas.List.Elements.{Contains-push_cases}
use Rattle.std.specs.Prelude.{Contains}
use Rattle.atomic_table.specs.Table.{Me, Allows, keeps}
use Rattle.rds_seats.specs.Views.{At}
use Rattle.rds_seats.specs.ViewLaws.{at_here, each_set, total_set, total_below, total_times}
use Rattle.rds_bindtab.specs.declared.view.View.{View}
use Rattle.rds_bindtab.specs.declared.view.Telling.{Telling}
use Rattle.rds_bindtab.specs.declared.view.Step.TheVariants.{Drew, Looked}
use Rattle.rds_bindtab.specs.Seats.{after_draw, note_with}
use Rattle.rds_bindtab.specs.Shared.{Shared, Ruled, IsAlone}
use Rattle.rds_bindtab.proofs.Facts.{Change}
use Rattle.rds_bindtab.proofs.Words.{draws_in, stepped_one, ports_same, draws_fit, facts_of, claimed_still}

-- the slot that a draw gives is the number found, and one of the table's
given : (n slots s : ℕ) (b : Bool) → nat_lt n slots ≡ b → cond b (Some n) None ≡ Some s → (n ≡ s) × (n < slots)
given n slots s true is e = (cc, grind arith)
given n slots s false is e = absurd (cc)

-- the steps of a seat that drew, but for the draw
drew_looked : (v : View) (n port : ℕ) (found : Option ℕ) (told : List Telling) → Contains (v.steps ++ Drew n ∷ []) (Looked port found told) → Contains v.steps (Looked port found told)
drew_looked v n port found told m = ⊎_elim (λ was. was) (λ same. absurd (cc)) (Contains-push_cases v.steps (Drew n) (Looked port found told) m)

drawn_change : (slots : ℕ) (words : List ℕ) (views : List View) (id : ℕ) (v : View) → Shared slots words views → At views id v → v.slot ≡ None → v.port ≡ None → v.slots ≡ slots
    → let w = after_draw v (draws_in words) in Change slots (draws_in words) (draws_in words + 1) views (set views id w) v w
drawn_change slots words views id v h here unslotted unported same =
    let n = draws_in words in
    let w = after_draw v n in
    let f = facts_of slots words views h in
    record {
      rises = omega arith;
      slot = λ s e. let g = given n v.slots s (nat_lt n v.slots) refl e in inr ((let q = g.0 in omega arith), (let q = g.0 in omega arith), (let q = g.0 in let r = g.1 in omega arith));
      claimed = λ port slot k. absurd (let p = k.1 in cc);
      claims = λ port slot k. (id, w, at_here views id v w here, claimed_still port slot v (Drew n) k);
      owns = λ port slot e k. claimed_still port slot v (Drew n) k;
      told = λ t m. f.told id v here t m;
      looked = λ port found told m. f.looked id v here port found told (drew_looked v n port found told m);
    }

-- who counts for all seats has made all draws
alone_drew : (slots : ℕ) (words : List ℕ) (views : List View) (id : ℕ) (v : View) → Shared slots words views → At views id v → IsAlone v → draws_in words ≡ v.draws
alone_drew slots words views id v h here alone =
    let none = note_with slots [] [] in
    let others = set views id none in
    let seats = total_set (λ (x : View). x.weight + x.splits) views id v none here in
    let drawn = total_set (λ (x : View). x.draws) views id v none here in
    let few = each_set (λ x. x.draws ≤ x.weight * 2147483648) (λ x. x.draws ≤ x.weight * 2147483648) views id none h.few (λ x p. p) (omega arith) in
    let below = total_below (λ (x : View). x.draws) (λ x. x.weight * 2147483648) others few in
    let times = total_times (λ (x : View). x.weight) 2147483648 others in
    let within = total_below (λ (x : View). x.weight) (λ x. x.weight + x.splits) others (λ i x e. omega arith) in
    let all = h.seated in
    let word = h.drawn in
    omega arith

pub draws : (slots homes id : ℕ) (me : Me (Unit {0}) View) → me.0.slot ≡ None → me.0.port ≡ None → me.0.slots ≡ slots → me.0.draws < 2147483648 → 1 ≤ me.0.weight
    → Allows (Ruled slots) homes id me 65536 (λ n. (n + 1) % 18446744073709551616) (λ found now. (now ≡ (after_draw me.0 found, me.1)) × (IsAlone me.0 → found ≡ me.0.draws))
draws slots homes id me unslotted unported same few living s h size here fits =
    let words = s.words in
    let n = draws_in words in
    let w = after_draw me.0 n in
    let room = draws_fit slots words s.views h in
    let next : (n + 1) % 18446744073709551616 ≡ n + 1 = mod-eq_of_lt (omega arith) in
    let after = set words 65536 (n + 1) in
    let now : draws_in after ≡ n + 1 = get_or-set_same words 65536 (n + 1) 0 (let z = h.size in omega arith) in
    let done : Shared slots after (set s.views id w) =
    stepped_one slots words after s.views id me.0 w h here (length-set words 65536 (n + 1) ∙ h.size)
    (ports_same words after s.views id me.0 w here (λ port small. get_or-set_other words 65536 port (n + 1) 0 (λ e. omega arith)) (λ port slot k. absurd (let p = k.1 in cc)) (λ port slot k. absurd (let p = k.1 in cc)) h.ports)
    record { draws = (let e = now in omega arith); seats = refl; few = omega arith }
    (subst (λ d. Change slots n d s.views (set s.views id w) me.0 w) (sym now) (drawn_change slots words s.views id me.0 h here unslotted unported same)) in
    (w, keeps, tt, subst (λ k. Shared slots (set words 65536 k) (set s.views id w)) (sym next) done, (refl, alone_drew slots words s.views id me.0 h here))
