-- Laws, each proved: proofs in other crates use them. Nothing here has to be believed.
-- The numbers that are due on a stream: alive, and not pulled there.
use Rattle.std.proofs.Common.{◌≡◌, inl, inr, ℕ, ◌<◌, ◌&&◌, not, Bool, true, false, List, [], ◌∷◌}
use Rattle.std.proofs.lemmas.Bool.{and_parts, and_from, and_cases, both_ways, not-true, not-false, not_from_false, false_from_ne_true}
use Rattle.rds_model.specs.declared.entry.Entry.{Entry}
use Rattle.rds_model.specs.Past.{accepted}
use Rattle.rds_model.specs.Streams.{pulled_on}
use Rattle.rds_model.specs.Alive.{is_alive, due_numbers}
use Rattle.rds_model.specs.NumberLaws.{number_of_known, alive_parts}
use Rattle.rds_model.specs.LeastDueLaws.{first_of_filter, filter_of_first, none_passes, passes_none}

-- the test of a number that is due
abbrev is_due : ℕ → List Entry → ℕ → Bool
is_due s past n = is_alive past n && not (pulled_on s past n)

-- a number that is alive and not due was pulled on the stream
pulled_unless_due : (s : ℕ) (past : List Entry) (m : ℕ) → is_alive past m ≡ true → is_due s past m ≡ false → pulled_on s past m ≡ true
pulled_unless_due s past m alive other =
    elim (and_cases (is_alive past m) (not (pulled_on s past m)) other) [
      | inl dead ↦ absurd (both_ways _ dead alive)
      | inr was ↦ not-false (pulled_on s past m) was
    ]

-- where none is due, each number that is alive was pulled on the stream
pub none_due : (s : ℕ) (past : List Entry) → due_numbers s past ≡ [] → (m : ℕ) → is_alive past m ≡ true → pulled_on s past m ≡ true
none_due s past none m alive =
    let range = number_of_known past m (alive_parts past m alive).known in
    pulled_unless_due s past m alive (none_passes (is_due s past) (accepted past) none m range.0 range.1)

pub due_none : (s : ℕ) (past : List Entry) → ((m : ℕ) → is_alive past m ≡ true → pulled_on s past m ≡ true) → due_numbers s past ≡ []
due_none s past pulled =
    passes_none (is_due s past) (accepted past)
    (λ m above within. false_from_ne_true (is_due s past m) (λ is.
    let both = and_parts (is_alive past m) (not (pulled_on s past m)) is in
    both_ways _ (not-true (pulled_on s past m) both.1) (pulled m both.0)))

-- the least number that is due is alive, wasn't pulled on the stream, and each smaller one that is alive was
pub record IsLeastDue (s : ℕ) (past : List Entry) (n : ℕ) : Type 0 where
  pub alive : is_alive past n ≡ true
  pub once : pulled_on s past n ≡ false
  pub least : (m : ℕ) → m < n → is_alive past m ≡ true → pulled_on s past m ≡ true

pub least_due : (s : ℕ) (past : List Entry) (n : ℕ) (rest : List ℕ) → due_numbers s past ≡ n ∷ rest → IsLeastDue s past n
least_due s past n rest is =
    let first = first_of_filter (is_due s past) (accepted past) n rest is in
    let both = and_parts (is_alive past n) (not (pulled_on s past n)) first.passes in
    record {
      alive = both.0;
      once = not-true (pulled_on s past n) both.1;
      least = λ m below alive.
          let range = number_of_known past m (alive_parts past m alive).known in
          pulled_unless_due s past m alive (first.least m range.0 below);
    }

pub due_of_least : (s : ℕ) (past : List Entry) (n : ℕ) → IsLeastDue s past n → (rest : List ℕ) × (due_numbers s past ≡ n ∷ rest)
due_of_least s past n least =
    let range = number_of_known past n (alive_parts past n least.alive).known in
    filter_of_first (is_due s past) (accepted past) n (record {
      within = range.1;
      above = range.0;
      passes = and_from (is_alive past n) (not (pulled_on s past n)) least.alive (not_from_false (pulled_on s past n) least.once);
      least = λ m above below. false_from_ne_true (is_due s past m) (λ is.
          let both = and_parts (is_alive past m) (not (pulled_on s past m)) is in
          both_ways _ (not-true (pulled_on s past m) both.1) (least.least m below both.0));
    })
