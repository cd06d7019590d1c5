-- Reading line after line, as the loop does.
use Rattle.std.proofs.Common.{◌≡◌, ℕ, ◌+◌, List, [], ◌∷◌, length, Ok, Err, refl, arith}
use Rattle.std.specs.Str.Lines.{lines}
use Rattle.std.proofs.lemmas.Bool.{eq-eqb, ne_eqb}
use Rattle.rds_script.specs.declared.cause.Cause.TheVariants as cause
use Rattle.rds_script.specs.declared.fault.Fault.{Fault}
use Rattle.rds_script.specs.declared.fault.Fault.TheVariants as fault
use Rattle.rds_script.specs.Grammar.{Meaning}
use Rattle.rds_script.specs.Reading.{Fails, ErrsAt, at_its_line, line_at, lines_at}

-- the line after the last one that is allowed
pub stops : (s : Meaning) (k : ℕ) (line : List ℕ) (more : List (List ℕ)) → k ≡ 200000 → lines_at s k (line ∷ more) ≡ Err (k + 1, cause.Lines)
unfolding lines_at
stops s k line more is = rw (eq-eqb k 200000 is) refl

pub goes_on : (s t : Meaning) (k : ℕ) (line : List ℕ) (more : List (List ℕ)) → (k ≡ 200000 → ⊥) → line_at s (k + 1) line ≡ Ok t → lines_at s k (line ∷ more) ≡ lines_at t (k + 1) more
unfolding lines_at
goes_on s t k line more other e = rw (ne_eqb k 200000 other, e) refl

pub fails : (s : Meaning) (k : ℕ) (line : List ℕ) (more : List (List ℕ)) (f : Fault) → (k ≡ 200000 → ⊥) → Fails f (line_at s (k + 1) line) → ErrsAt (at_its_line f (k + 1)) (lines_at s k (line ∷ more))
unfolding lines_at
fails s k line more (fault.Refused e) other e-is = rw (ne_eqb k 200000 other, e-is) refl
fails s k line more fault.Memory other e-is = tt

pub ends : (s : Meaning) (k : ℕ) (text : List ℕ) → length text ≡ 0 → lines_at s k (lines text) ≡ Ok s
unfolding lines_at
ends s k [] none = refl
ends s k (b ∷ text) none = absurd (omega arith)
