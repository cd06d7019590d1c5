-- What `clap` makes of the words of `gen`.
use Rattle.std.proofs.Common.{◌≡◌, ◌⊎◌, ℕ, List, [], Option, Some, None, Result, Ok, Err, IfOk, true, codes, refl, sym, ap, subst, ◌∙◌}
use Rattle.clap.specs.Words.{App, IsAmong, HasMatchesOf, fault_of, first_of, is_simple_and_free}
use Rattle.clap.specs.Matches.{found_of, first_value}
use Rattle.clap.specs.declared.parser.matches.ArgMatches.{ArgMatches}
use Rattle.clap.specs.declared.error.kind.ErrorKind.{ErrorKind}
use Rattle.clap.specs.declared.error.kind.ErrorKind.TheVariants as kind
use Rattle.clap.proofs.WalkLemmas.{first_value-rows}
use Rattle.rds_wire.specs.declared.memory.Memory.{Memory}
use Rattle.rds_run.specs.GenWords.{AreNumbers, IsFound, TakesGen, gen_app, gen_faults, gen_word}

-- where the parse succeeds, there is no fault
pub gen_no_fault : (app : App) (words : List (List ℕ)) → app ≡ gen_app →
    (is_simple_and_free app ≡ true → fault_of app words ≡ []) → gen_faults words ≡ []
unfolding gen_faults
gen_no_fault app words is kinds = subst (λ a. is_simple_and_free a ≡ true → fault_of a words ≡ []) is kinds refl

-- where it fails, its kind is that of a memory error or among the faults
pub gen_a_fault : (app : App) (words : List (List ℕ)) (k : ErrorKind) → app ≡ gen_app →
    (is_simple_and_free app ≡ true → (k ≡ kind.OutOfMemory) ⊎ IsAmong k (fault_of app words)) →
    (k ≡ kind.OutOfMemory) ⊎ IsAmong k (gen_faults words)
unfolding gen_faults
gen_a_fault app words k is kinds =
    subst (λ a. is_simple_and_free a ≡ true → (k ≡ kind.OutOfMemory) ⊎ IsAmong k (fault_of a words)) is kinds refl

-- the value that was found is the word under its name
pub word_found : (id : List ℕ) (app : App) (words : List (List ℕ)) (m : ArgMatches) → app ≡ gen_app → HasMatchesOf app words m →
    first_value (found_of m) id ≡ gen_word id words
unfolding gen_word
word_found id app words m is has =
    let rows = subst (λ a. HasMatchesOf a words m) is has in
    first_value-rows (found_of m) id ∙ ap (first_of id) (rows refl).0

-- `gen` takes words without a fault exactly where the two that were found are such numbers
pub takes : (words : List (List ℕ)) (first second : Option (List ℕ)) (numbers : Option (ℕ × ℕ)) → gen_faults words ≡ [] →
    first ≡ gen_word (codes "sends") words → second ≡ gen_word (codes "seed") words → IsFound (AreNumbers first second) numbers →
    IsFound (TakesGen words) numbers
takes words first second None none same other found = λ sends seed taken.
    found sends seed (subst (λ (w : Option (List ℕ)). AreNumbers w second sends seed) (sym same)
    (subst (λ (w : Option (List ℕ)). AreNumbers (gen_word (codes "sends") words) w sends seed) (sym other) taken.numbers))
takes words first second (Some n) none same other found = record {
  faults = none;
  numbers = subst (λ (w : Option (List ℕ)). AreNumbers (gen_word (codes "sends") words) w n.0 n.1) other
      (subst (λ (w : Option (List ℕ)). AreNumbers w second n.0 n.1) same found);
}

-- what was found of words under A was found of them
pub with_gen_name : (A : Type 0) (B : (sends seed : ℕ) → Type 0) (r : Result (Option (ℕ × ℕ)) Memory) → A → IfOk r (IsFound B) →
    IfOk r (IsFound (λ sends seed. A × B sends seed))
with_gen_name A B (Ok None) a found = λ sends seed both. found sends seed both.1
with_gen_name A B (Ok (Some n)) a found = (a, found)
with_gen_name A B (Err e) a found = found
