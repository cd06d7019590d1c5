-- Empty lists and lists of one.
use Rattle.std.proofs.Common.{zero, suc, [], ◌∷◌, sym, subst, arith}
use Rattle.std.specs.Prelude.{Contains}
use mathlib.Core.Option.{some-ne-none, some-injective}
use Rattle.rds_seats.specs.Views.{Each}

pub nothing_in : {X : Type 0} (x : X) → Contains [] x → ⊥
nothing_in x m = let k = m.1 in omega arith

pub each_of_one : {V : Type 0} (P : V → Type 0) (v : V) → P v → Each (v ∷ []) P
each_of_one P v p zero u at = subst P (some-injective _ _ at) p
each_of_one P v p (suc j) u at = absurd (some-ne-none u (sym at))
