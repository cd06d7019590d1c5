-- Steps one after another.
use Rattle.std.proofs.Common.{◌≡◌, ℕ, ◌+◌, ◌<◌, List, [], ◌∷◌, ◌++◌, length, take, get_or, refl, sym, ◌∙◌, ap, subst}
use Rattle.std.proofs.lemmas.List.{take_more}
use Rattle.rds_play_pair.specs.declared.step.PairStep.{PairStep}
use Rattle.rds_play_pair.specs.Sides.{Sides}
use Rattle.rds_play_pair.specs.Playing.{Does, DoesAll}

does_all_more : (steps : List PairStep) (step : PairStep) (old between new : Sides) → DoesAll steps old between → Does step between new →
    DoesAll (steps ++ step ∷ []) old new
does_all_more [] step old between new all does = (new, subst (λ (p : Sides). Does step p new) all does, refl)
does_all_more (first ∷ steps) step old between new all does =
    (all.0, all.1, does_all_more steps step all.0 between new all.2 does)

-- the steps before a place, and then the one that stands there
pub does_all_next : (steps : List PairStep) (i : ℕ) (step : PairStep) (old between new : Sides) → i < length steps → step ≡ get_or steps i step →
    DoesAll (take i steps) old between → Does step between new → DoesAll (take (i + 1) steps) old new
does_all_next steps i step old between new within is all does =
    let grown = take_more steps i step within ∙ ap (λ (s : PairStep). take i steps ++ s ∷ []) (sym is) in
    subst (λ (front : List PairStep). DoesAll front old new) (sym grown) (does_all_more (take i steps) step old between new all does)
