-- Streams have rising numbers from 1 on, so no more are opened than the highest number says.
use Rattle.std.proofs.Common.{ℕ, ◌≤◌, List, [], ◌∷◌, ◌++◌, length, length-append, arith}
use Rattle.std.specs.List.{All}
use Rattle.std.proofs.lemmas.List.Elements.{All-contains, Contains-push}
use Rattle.rds_model.specs.declared.entry.Entry.{Entry}
use Rattle.rds_model.specs.declared.entry.Entry.TheVariants.{Open}
use Rattle.rds_model.specs.Past.{newest_stream}
use Rattle.rds_model.specs.Sums.{opens}
use Rattle.rds_model.specs.Legal.{IsLegal}
use Rattle.rds_model.specs.LegalityLaws.{lawful_open}

opened_by_number : (past : List Entry) → IsLegal past → length (opens past) ≤ newest_stream past
opened_by_number [] legal = omega arith
opened_by_number (Open s ∷ past) legal =
    omega (arith, length-append (opens past) (s ∷ []), opened_by_number past legal.1, (lawful_open s past legal).1)
opened_by_number (_ ∷ past) legal = opened_by_number past legal.1

newest_within : (highest : ℕ) (past : List Entry) → All (λ s. s ≤ highest) (opens past) → newest_stream past ≤ highest
newest_within highest [] all = omega arith
newest_within highest (Open s ∷ past) all = All-contains (λ x. x ≤ highest) (opens past ++ s ∷ []) s all (Contains-push (opens past) s)
newest_within highest (_ ∷ past) all = newest_within highest past all

pub few_streams : (highest : ℕ) (past : List Entry) → IsLegal past → All (λ s. s ≤ highest) (opens past) → length (opens past) ≤ highest
few_streams highest past legal all = omega (arith, opened_by_number past legal, newest_within highest past all)
