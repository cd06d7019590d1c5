-- Ends that are given back, one line after another.
use Rattle.std.proofs.Common.{◌≡◌, ℕ, ◌+◌, ◌-◌, List, [], ◌∷◌, ◌++◌, arith}
use Rattle.std.proofs.lemmas.List.Sums.{sum_by_push}
use Rattle.rds_line.specs.Line.{LineView}
use Rattle.rds_host.specs.Held.{ends_in, ends_of}

pub out_after : {E M : Type 0} (seen : List (LineView E M)) (line : LineView E M) (before mid after : ℕ) → mid ≡ before - ends_in seen → after ≡ mid - ends_of line →
    after ≡ before - ends_in (seen ++ line ∷ [])
out_after seen line before mid after first second = let both = sum_by_push ends_of seen line in omega (arith, first, second, both)
