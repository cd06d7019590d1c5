use Rattle.std.proofs.Common.{◌≡◌, ◌∷◌, [], ◌++◌, ◌∙◌, List, Vec, Global, length, arith, refl, ap, sym, append_assoc, append-nil}
use Rattle.std.specs.List.{flat_map}
use Rattle.std.specs.Vec.Iter.{into_iter_items}
use Rattle.rds_report.proofs.lists.joined.Goals as goal

-- what lists have, one behind another
abbrev items : {X : Type 0} → List (Vec X Global) → List X
items lists = flat_map (λ list. list.items) lists

pub loop-list-init : goal.loop-list-init
loop-list-init g c =
    let all = c.into_iter-list-iterator.ensures.into_iter_gives in
    record {
      long = all.1 ∙ c.args.lists.ok.0 ∙ ap length (sym all.0);
      told = ap (λ l. l ++ items (into_iter_items c.into_iter-list-iterator.result)) (c.reserve.ensures.items ∙ c.new-all.ensures.items) ∙ ap items all.0;
    }

pub loop-list-preserved : goal.loop-list-preserved
loop-list-preserved g c =
    let at = c.loop-list in
    let left = into_iter_items c.next.new.self in
    let list = c.in-Some.list.items in
    let steps : into_iter_items at.list-iterator ≡ c.in-Some.list ∷ left = c.in-Some.ensures.steps.0 in
    let was = at.invariant.long in
    let gone = c.in-Some.ensures.steps.1 in
    let short = ap length steps in
    record {
      long = omega arith;
      told =
          ap (λ l. l ++ items left) c.in_ok-append.ensures.items
          ∙ append_assoc at.all.items list (items left)
          ∙ ap (λ l. at.all.items ++ items l) (sym steps)
          ∙ at.invariant.told;
    }

nothing_left : {X : Type 0} (l : List X) → length l ≡ 0 → l ≡ []
nothing_left [] h = refl
nothing_left (x ∷ xs) h = absurd (omega arith)

pub returns : goal.returns
returns g c =
    let at = c.loop-list in
    let empty = nothing_left (into_iter_items at.list-iterator) (sym at.invariant.long ∙ c.in-None.ensures.steps.0) in
    sym (append-nil at.all.items) ∙ ap (λ l. at.all.items ++ items l) (sym empty) ∙ at.invariant.told
