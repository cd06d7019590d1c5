-- What the seats at a host's port table hear of each other. Source: this project's own.
use Rattle.std.specs.Prelude.{◌≡◌, ℕ, List, Option, Some, All, Contains}
use Rattle.rds_bindtab.specs.Seats.{PortSeat}
use Rattle.rds_bindtab.specs.declared.view.View.{View}
use Rattle.rds_bindtab.specs.declared.view.Telling.{Telling}
use Rattle.rds_bindtab.specs.declared.view.Step.{Step}
use Rattle.rds_bindtab.specs.declared.view.Step.TheVariants.{Claimed, Looked}
use Rattle.rds_bindtab.specs.Shared.{HasClaimed}

-- each of these steps is one of those
abbrev pub AreAmong : List Step → List Step → Type 0
AreAmong these those = (step : Step) → Contains these step → Contains those step

-- no port was claimed by these steps
abbrev pub ClaimsNothing : List Step → Type 0
ClaimsNothing steps = (port slot found : ℕ) → Contains steps (Claimed port slot found) → ⊥

-- a seat at the same table, which has heard of all steps of these lines, and knows of no claim
pub record HasHeard (old : PortSeat) (lines : List PortSeat) (new : PortSeat) : Type 0 where
  pub table : new.table ≡ old.table
  pub own : AreAmong old.view.steps new.view.steps
  pub all : All (λ line. AreAmong line.view.steps new.view.steps) lines
  pub claims : ClaimsNothing new.view.steps

-- each port at which a look among these steps found the seat's slot was claimed by the seat
abbrev pub HasClaimedAll : List Step → View → Type 0
HasClaimedAll steps v = (port slot : ℕ) (told : List Telling) → v.slot ≡ Some slot → Contains steps (Looked port (Some slot) told) → HasClaimed port slot v

-- each look among these steps at a port of which its seat had been told that this one holds it found the seat's slot, where the seat has
-- released no port since
abbrev pub HasBeenFound : List Step → View → Type 0
HasBeenFound steps v = (port : ℕ) (found : Option ℕ) (told : List Telling) (telling : Telling) → v.slot ≡ Some telling.slot → telling.port ≡ port →
    telling.releases ≡ v.releases → Contains steps (Looked port found told) → Contains told telling → found ≡ Some telling.slot

-- what a slot's seat shows of these looks
pub record FitsLooks (steps : List Step) (v : View) : Type 0 where
  pub claimed : HasClaimedAll steps v
  pub found : HasBeenFound steps v
