-- What a list of steps does to a pair. Source: this project's own.
use Rattle.std.specs.Prelude.{◌≡◌, ℕ, ◌<◌, List, [], ◌∷◌, length, take}
use Rattle.rds_play_pair.specs.declared.step.PairStep.{PairStep}
use Rattle.rds_play_pair.specs.declared.step.PairStep.TheVariants as step
use Rattle.rds_play_pair.specs.Sides.{Sides, with_end}
use Rattle.rds_play_pair.specs.Changes.{ordered, opened_at_both, shut_at, cut_pair, pulled, passed, MovesTo}

-- one step was done, or passed over where it can't be done
abbrev pub Does : PairStep → Sides → Sides → Type 0
Does (step.Order end order) old new = new ≡ with_end end (ordered order) old
Does step.Open old new = new ≡ opened_at_both old
Does (step.Shut end) old new = new ≡ shut_at end old
Does step.Cut old new = new ≡ cut_pair old
Does (step.Pull end map) old new = new ≡ with_end end (pulled map) old
Does (step.Move to bytes) old new = (used : ℕ) × MovesTo to bytes used old new
Does (step.Pass end slot) old new = new ≡ with_end end (passed slot) old

-- each step was done, one after another
abbrev pub DoesAll : List PairStep → Sides → Sides → Type 0
DoesAll [] old new = new ≡ old
DoesAll (step ∷ steps) old new = (between : Sides) × Does step old between × DoesAll steps between new

-- the steps before one of them were done, and no more
abbrev pub Stops : List PairStep → Sides → Sides → Type 0
Stops steps old new = (done : ℕ) × (done < length steps) × DoesAll (take done steps) old new
