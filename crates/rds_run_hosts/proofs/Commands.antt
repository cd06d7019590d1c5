-- A command of a script is in range.
use Rattle.std.proofs.Common.{◌≡◌, ◌<◌, ◌+◌, ◌++◌, ◌∷◌, [], ℕ, List, length, get_or, sym, ap, subst, ◌∙◌, take}
use Rattle.std.proofs.lemmas.List.{take_more}
use Rattle.std.proofs.lemmas.List.Elements.{All-get_or}
use Rattle.std.specs.List.{All}
use Rattle.rds_script.specs.Script.{IsCommand}
use Rattle.rds_script.specs.declared.script.Placed.{Placed}

pub known_at : (hosts : ℕ) (xs : List Placed) (i : ℕ) (x : Placed) → i < length xs → x ≡ get_or xs i x → All (λ p. IsCommand hosts p.command) xs → IsCommand hosts x.command
known_at hosts xs i x below is all = subst (λ (p : Placed). IsCommand hosts p.command) (sym is) (All-get_or (λ p. IsCommand hosts p.command) xs i x below all)

-- with the next command, one more is taken
pub taken_next : (xs : List Placed) (i : ℕ) (x : Placed) → i < length xs → x ≡ get_or xs i x → take (i + 1) xs ≡ take i xs ++ x ∷ []
taken_next xs i x below is = take_more xs i x below ∙ ap (λ (y : Placed). take i xs ++ y ∷ []) (sym is)
