use Rattle.std.proofs.Common.{◌≡◌, ◌∷◌, [], ◌∙◌, List, length, arith, refl, ap, sym, subst}
use Rattle.std.specs.List.{AllByRecursion, concat}
use Rattle.std.specs.Vec.Iter.{into_iter_items}
use Rattle.rds_script_pieces.specs.declared.part.Part.{Part}
use Rattle.rds_script_pieces.specs.Parts.{AreInLines, IsPart}
use Rattle.rds_script_pieces.proofs.Halfway.{Halfway, half_none, half_more, half_all}
use Rattle.rds_script_pieces.proofs.joining.joined.Goals as goal

pub loop-part-init : goal.loop-part-init
loop-part-init c =
    let all = c.into_iter-part-iterator.ensures.into_iter_gives in
    let left = into_iter_items c.into_iter-part-iterator.result in
    record {
      lines = subst (AllByRecursion (λ (p : Part). AreInLines p.script.commands.items)) (sym all.0) c.requires.lines;
      long = all.1 ∙ c.args.parts.ok.0 ∙ ap length (sym all.0);
      told = λ head pieces read.
          subst (Halfway head pieces c.in_ok-whole.whole) (sym all.0) (half_none head c.args.head_lines pieces c.args.first c.in_ok-whole.whole c.args.parts.items read (c.in_ok-whole.ensures {u = tt}));
    }

pub loop-part-preserved : goal.loop-part-preserved
loop-part-preserved c =
    let at = c.loop-part in
    let left = into_iter_items c.next.new.self in
    let steps : into_iter_items at.part-iterator ≡ c.in-Some.part ∷ left = c.in-Some.ensures.steps.0 in
    let lines = subst (AllByRecursion (λ (p : Part). AreInLines p.script.commands.items)) steps at.invariant.lines in
    let was = at.invariant.long in
    let gone = c.in-Some.ensures.steps.1 in
    let short = ap length steps in
    record {
      lines = lines.1;
      long = omega arith;
      told = λ head pieces read.
          half_more head c.args.head_lines pieces c.args.first c.args.parts.items left at.whole c.in-Some.part c.in_ok-whole-2.whole read (c.in_ok-whole-2.ensures {u = tt}) (subst (Halfway head pieces at.whole) steps (at.invariant.told head pieces read));
    }

nothing_left : {X : Type 0} (l : List X) → length l ≡ 0 → l ≡ []
nothing_left [] h = refl
nothing_left (x ∷ xs) h = absurd (omega arith)

pub returns : goal.returns
returns c = λ head pieces read.
    let at = c.loop-part in
    let empty : into_iter_items at.part-iterator ≡ [] = nothing_left _ (sym at.invariant.long ∙ c.in-None.ensures.steps.0) in
    let all : IsPart head (concat pieces) at.whole = half_all head pieces at.whole (subst (Halfway head pieces at.whole) empty (at.invariant.told head pieces read)) in
    (all.spells, all.known)
