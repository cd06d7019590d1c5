-- What `clap` makes of words.
use Rattle.std.proofs.Common.{◌≡◌, ◌⊎◌, inl, inr, ℕ, List, [], Option, Some, None, Result, Ok, Err, IfOk, true, refl, sym, ap, subst, ◌∙◌, codes}
use Rattle.clap.specs.Words.{App, Kinds, IsAmong, HasMatchesOf, fault_of, first_of, is_simple_and_free}
use Rattle.clap.specs.Matches.{found_of, first_value}
use Rattle.clap.specs.declared.parser.matches.ArgMatches.{ArgMatches}
use Rattle.clap.specs.declared.error.kind.ErrorKind.{ErrorKind}
use Rattle.clap.specs.declared.error.kind.ErrorKind.TheVariants as kind
use Rattle.clap.proofs.WalkLemmas.{first_value-rows}
use Rattle.rds_wire.specs.declared.memory.Memory.{Memory}
use Rattle.rds_run.specs.declared.wire.RunWire.{RunWire}
use Rattle.rds_run.specs.RunWords.{IsWireFound, NamesWire, TakesRun, run_app, run_faults, wire_named}

-- an error of another kind than memory shows that there was a fault
pub fault_found : (k : ErrorKind) (faults : Kinds) → (k ≡ kind.OutOfMemory → ⊥) → (k ≡ kind.OutOfMemory) ⊎ IsAmong k faults → faults ≡ [] → ⊥
fault_found k faults other (inl memory) none = other memory
fault_found k faults other (inr among) none = subst (λ (ks : Kinds). IsAmong k ks) none among

-- where the parse of `run` succeeds, there is no fault
pub run_no_fault : (app : App) (words : List (List ℕ)) → app ≡ run_app →
    (is_simple_and_free app ≡ true → fault_of app words ≡ []) → run_faults words ≡ []
unfolding run_faults
run_no_fault app words is kinds = subst (λ a. is_simple_and_free a ≡ true → fault_of a words ≡ []) is kinds refl

-- where it fails, its kind is that of a memory error or among the faults
pub run_a_fault : (app : App) (words : List (List ℕ)) (k : ErrorKind) → app ≡ run_app →
    (is_simple_and_free app ≡ true → (k ≡ kind.OutOfMemory) ⊎ IsAmong k (fault_of app words)) →
    (k ≡ kind.OutOfMemory) ⊎ IsAmong k (run_faults words)
unfolding run_faults
run_a_fault app words k is kinds =
    subst (λ a. is_simple_and_free a ≡ true → (k ≡ kind.OutOfMemory) ⊎ IsAmong k (fault_of a words)) is kinds refl

-- the value that was found is the wire that the words name
pub wire_found : (app : App) (words : List (List ℕ)) (m : ArgMatches) → app ≡ run_app → HasMatchesOf app words m →
    first_value (found_of m) (codes "wire") ≡ wire_named words
unfolding wire_named
wire_found app words m is has =
    let rows = subst (λ a. HasMatchesOf a words m) is has in
    first_value-rows (found_of m) (codes "wire") ∙ ap (first_of (codes "wire")) (rows refl).0

-- `run` takes words without a fault over exactly the wire that they name
pub takes : (words : List (List ℕ)) (wire : Option RunWire) (name : Option (List ℕ)) → run_faults words ≡ [] → name ≡ wire_named words →
    IsWireFound (NamesWire name) wire → IsWireFound (TakesRun words) wire
takes words (Some wire) name none same found = record { faults = none; names = subst (λ (n : Option (List ℕ)). NamesWire n wire) same found }
takes words None name none same found = λ asked taken. found asked (subst (λ (n : Option (List ℕ)). NamesWire n asked) (sym same) taken.names)

-- what was found of words under A was found of them
pub with_run_name : (A : Type 0) (B : RunWire → Type 0) (r : Result (Option RunWire) Memory) → A → IfOk r (IsWireFound B) →
    IfOk r (IsWireFound (λ asked. A × B asked))
with_run_name A B (Ok None) a found = λ asked both. found asked both.1
with_run_name A B (Ok (Some wire)) a found = (a, found)
with_run_name A B (Err e) a found = found
