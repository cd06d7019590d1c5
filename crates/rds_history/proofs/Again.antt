-- Steps that are taken again and again, until one moves no byte.
use Rattle.std.proofs.Common.{◌≡◌, ℕ, zero, suc, ◌<◌, ◌≤◌, Bool, true, false, cond, Ok, Err, List, refl, arith}
use Rattle.std.proofs.lemmas.Bool.{ltb-true}
use Rattle.std.specs.Prelude.{nat_lt}
use Rattle.rds_history.specs.Events.{Event}
use Rattle.rds_history.specs.Journals.{moved_in_all}
use Rattle.rds_history.specs.Courses.{Course, and_then, again}
use Rattle.rds_history.proofs.EventInvariants.{Holds}

-- what follows a step that moved a byte
abbrev pub EndsAfter : (List Event → Type 0) → (past : List Event) → Course → Type 0
EndsAfter next past (Ok later) = nat_lt (moved_in_all past) (moved_in_all later) ≡ true → next later
EndsAfter next past (Err full) = Unit {0}

-- one of so many steps moves no byte, or finds a journal full
abbrev pub Ends : (List Event → Course) → ℕ → List Event → Type 0
Ends step zero past = ⊥
Ends step (suc n) past = EndsAfter (Ends step n) past (step past)

pub ends_from : (R next : List Event → Type 0) (past : List Event) (c : Course) → Holds R c →
    ((later : List Event) → R later → moved_in_all past < moved_in_all later → next later) → EndsAfter next past c
ends_from R next past (Ok later) is step = λ more. step later is (ltb-true (moved_in_all past) (moved_in_all later) more)
ends_from R next past (Err full) is step = tt

-- more steps come to the same
pub ends_again : (step : List Event → Course) (n t : ℕ) (past : List Event) → Ends step n past → n ≤ t → again t step past ≡ again n step past
ends_again step zero t past ends within = absurd ends
ends_again step (suc n) zero past ends within = absurd (omega (arith, within))
ends_again step (suc n) (suc t) past ends within = go (step past) ends (λ later e. ends_again step n t later e (omega (arith, within)))
  where
    on : (b : Bool) (later : List Event) → (b ≡ true → Ends step n later) → ((later : List Event) → Ends step n later → again t step later ≡ again n step later) →
        cond b (again t step later) (Ok later) ≡ cond b (again n step later) (Ok later)
    on true later e rest = rest later (e refl)
    on false later e rest = refl

    go : (c : Course) → EndsAfter (Ends step n) past c → ((later : List Event) → Ends step n later → again t step later ≡ again n step later) →
        and_then c (λ later. cond (nat_lt (moved_in_all past) (moved_in_all later)) (again t step later) (Ok later))
        ≡ and_then c (λ later. cond (nat_lt (moved_in_all past) (moved_in_all later)) (again n step later) (Ok later))
    go (Ok later) e rest = on (nat_lt (moved_in_all past) (moved_in_all later)) later e rest
    go (Err full) e rest = refl

-- the last step, which moved no byte
pub record IsLast (step : List Event → Course) (P : List Event → Type 0) (later : List Event) : Type 0 where
  pub before : List Event
  pub is : step before ≡ Ok later
  pub none : nat_lt (moved_in_all before) (moved_in_all later) ≡ false
  pub kept : P before

pub last_step : (step : List Event → Course) (P : List Event → Type 0) → ((past later : List Event) → P past → step past ≡ Ok later → P later) →
    (n : ℕ) (past : List Event) → Ends step n past → P past → Holds (IsLast step P) (again n step past)
last_step step P keeps zero past ends p = absurd ends
last_step step P keeps (suc n) past ends p = go (step past) refl ends (λ later e q. last_step step P keeps n later e q)
  where
    on : (b : Bool) (later : List Event) → step past ≡ Ok later → nat_lt (moved_in_all past) (moved_in_all later) ≡ b → (b ≡ true → Ends step n later) →
        ((later : List Event) → Ends step n later → P later → Holds (IsLast step P) (again n step later)) →
        Holds (IsLast step P) (cond b (again n step later) (Ok later))
    on true later is at e rest = rest later (e refl) (keeps past later p is)
    on false later is at e rest = record { before = past; is = is; none = at; kept = p }

    go : (c : Course) → step past ≡ c → EndsAfter (Ends step n) past c →
        ((later : List Event) → Ends step n later → P later → Holds (IsLast step P) (again n step later)) →
        Holds (IsLast step P) (and_then c (λ later. cond (nat_lt (moved_in_all past) (moved_in_all later)) (again n step later) (Ok later)))
    go (Ok later) is e rest = on (nat_lt (moved_in_all past) (moved_in_all later)) later is refl e rest
    go (Err full) is e rest = tt
