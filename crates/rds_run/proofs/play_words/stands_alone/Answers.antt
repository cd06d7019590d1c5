use Rattle.std.proofs.Common.{◌≡◌, ◌⊎◌, ℕ, List, [], true, refl, subst, rules, codes}
use Rattle.clap.specs.Words.{App, IsAmong, new_app, fault_of, is_simple_and_free}
use Rattle.clap.specs.declared.error.kind.ErrorKind.{ErrorKind}
use Rattle.clap.specs.declared.error.kind.ErrorKind.TheVariants as kind
use Rattle.rds_run.specs.PlayWords.{play_faults}
use Rattle.rds_run.proofs.Parsed.{fault_found}
use Rattle.rds_run.proofs.play_words.stands_alone.Goals as goal

-- where the parse succeeds, there is no fault
no_fault : (app : App) (words : List (List ℕ)) → app ≡ new_app (codes "play") →
    (is_simple_and_free app ≡ true → fault_of app words ≡ []) → play_faults words ≡ []
unfolding play_faults
no_fault app words is kinds = subst (λ a. is_simple_and_free a ≡ true → fault_of a words ≡ []) is kinds refl

-- where it fails, its kind is that of a memory error or among the faults
a_fault : (app : App) (words : List (List ℕ)) (k : ErrorKind) → app ≡ new_app (codes "play") →
    (is_simple_and_free app ≡ true → (k ≡ kind.OutOfMemory) ⊎ IsAmong k (fault_of app words)) →
    (k ≡ kind.OutOfMemory) ⊎ IsAmong k (play_faults words)
unfolding play_faults
a_fault app words k is kinds =
    subst (λ a. is_simple_and_free a ≡ true → (k ≡ kind.OutOfMemory) ⊎ IsAmong k (fault_of a words)) is kinds refl

pub returns-in-Ok : goal.returns-in-Ok
returns-in-Ok c = let none = no_fault _ _ c.new.ensures.app c.in-Ok.ensures.kinds in (λ t. none, λ same. refl)

pub returns : goal.returns
returns c =
    let other = rw c.kind.ensures at c.in_default.not-OutOfMemory in
    let fault = a_fault _ _ _ c.new.ensures.app c.in-Err.ensures.kinds in
    (λ t. absurd (search rules), λ none. absurd (fault_found _ _ other fault none))
