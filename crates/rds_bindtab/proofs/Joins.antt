-- A seat or a note that is joined into a seat keeps the rule.
use Rattle.std.proofs.Common.{◌≡◌, ◌≢◌, ℕ, ◌+◌, ◌*◌, ◌≤◌, List, set, None, refl, sym, ◌∙◌, inl, inr, ⊎_elim, arith}
use Rattle.std.proofs.lemmas.List.Elements.{Contains-append_left, Contains-append_right, Contains-append_cases}
use Rattle.atomic_table.specs.Table.{Joins}
use Rattle.atomic_table.proofs.Lists.{set_else}
use Rattle.rds_seats.specs.Views.{At}
use Rattle.rds_seats.specs.ViewLaws.{at_here, at_there, each_set, total_set}
use Rattle.rds_bindtab.specs.declared.view.View.{View}
use Rattle.rds_bindtab.specs.declared.view.Step.TheVariants.{Claimed, Looked}
use Rattle.rds_bindtab.specs.Seats.{joined, spent}
use Rattle.rds_bindtab.specs.Shared.{Shared, Ruled}
use Rattle.rds_bindtab.proofs.Facts.{Facts, facts_set}
use Rattle.rds_bindtab.proofs.Words.{Ports, draws_in, facts_of, shared_of, ports_same}
use Rattle.rds_bindtab.proofs.Notes.{nothing_in}

module _ (slots : ℕ) (words : List ℕ) (views : List View) (id other : ℕ) (v w : View) (h : Shared slots words views) (here : At views id v) (apart : other ≢ id) (there : At views other w) (free : w.port ≡ None) where
  abbrev d : ℕ
  d = draws_in words

  abbrev both : View
  both = joined v w

  abbrev first : List View
  first = set views id both

  abbrev last : List View
  last = set first other spent

  f : Facts slots d views
  f = facts_of slots words views h

  other_there : At first other w
  other_there = at_there views id other w both apart there

  both_there : At last id both
  both_there = at_there first other id both spent (λ e. apart (sym e)) (at_here views id v both here)

  taken_in : Facts slots d first
  taken_in = facts_set slots d d views id v both f here record {
    rises = omega arith;
    slot = λ s e. inl (e, inr (refl, λ p q. q));
    claimed = λ p s k. Contains-append_left v.steps w.steps (Claimed p s 0) (h.claimed id v here p s k);
    claims = λ p s k. (id, both, at_here views id v both here, Contains-append_left v.steps w.steps (Claimed p s 0) k);
    owns = λ p s e k. Contains-append_left v.steps w.steps (Claimed p s 0) k;
    told = λ t m. ⊎_elim (λ was. h.told id v here t was) (λ was. h.told other w there t was) (Contains-append_cases v.told w.told t m);
    looked = λ p found told m. ⊎_elim (λ was. h.looked id v here p found told was) (λ was. h.looked other w there p found told was) (Contains-append_cases v.steps w.steps (Looked p found told) m);
  }

  left_over : Facts slots d last
  left_over = facts_set slots d d first other w spent taken_in other_there record {
    rises = omega arith;
    slot = λ s e. absurd (cc);
    claimed = λ p s k. absurd (let q = k.0 in cc);
    claims = λ p s k. (id, both, both_there, Contains-append_right v.steps w.steps (Claimed p s 0) k);
    owns = λ p s e k. absurd (cc);
    told = λ t m. absurd (nothing_in t m);
    looked = λ p found told m. absurd (nothing_in (Looked p found told) m);
  }

  ports_last : Ports words last
  ports_last = ports_same words words first other w spent other_there (λ q low. refl) (λ q s k. absurd (let p = k.1 in cc)) (λ q s k. absurd (let p = k.1 in cc))
      (ports_same words words views id v both here (λ q low. refl) (λ q s k. k) (λ q s k. k) h.ports)

  pub joined_one : Shared slots words last
  joined_one = shared_of slots words last h.size ports_last
      (let a = total_set (λ (x : View). x.draws) views id v both here in let b = total_set (λ (x : View). x.draws) first other w spent other_there in let e = h.drawn in omega arith)
      (let a = total_set (λ (x : View). x.weight + x.splits) views id v both here in let b = total_set (λ (x : View). x.weight + x.splits) first other w spent other_there in let e = h.seated in omega arith)
      (each_set (λ x. x.draws ≤ x.weight * 2147483648) (λ x. x.draws ≤ x.weight * 2147483648) first other spent
      (each_set (λ x. x.draws ≤ x.weight * 2147483648) (λ x. x.draws ≤ x.weight * 2147483648) views id both h.few (λ x p. p) (let a = h.few id v here in let b = h.few other w there in omega arith))
      (λ x p. p)
      (omega arith))
      left_over

pub joins : (slots id other : ℕ) (v w : View) → w.port ≡ None → Joins (Ruled slots) id v other w (joined v w) spent
joins slots id other v w free s h here apart there =
    joined_one slots s.words s.views id other v w h here apart (sym (set_else s.views id other (joined v w) apart) ∙ there) free
