-- What a claim answers, and what it leaves its seat with. This project's own.
use Rattle.std.specs.Prelude.{◌≡◌, ◌≢◌, ◌<◌, ◌≤◌, ℕ, Result, Ok, Err}
use Rattle.rds_bindtab.specs.declared.view.View.{View}
use Rattle.rds_bindtab.specs.declared.error.BindError.{BindError}
use Rattle.rds_bindtab.specs.declared.error.BindError.TheVariants.{Reserved, InUse, NoneFree}
use Rattle.rds_bindtab.specs.Seats.{after_exchange}

-- ports 0 and 1 are reserved, and a port is in use where the exchange found a number other than 0
abbrev pub ClaimFits : ℕ → Result (Unit {0}) BindError → Type 0
ClaimFits port (Ok _) = 2 ≤ port
ClaimFits port (Err (Reserved named)) = (named ≡ port) × (port < 2)
ClaimFits port (Err (InUse word)) = (2 ≤ port) × (word ≢ 0)
ClaimFits port (Err NoneFree) = ⊥

-- a claim makes its one exchange unless the port is reserved
abbrev pub after_claim : View → ℕ → Result (Unit {0}) BindError → View
after_claim v port (Ok _) = after_exchange v port 0
after_claim v port (Err (Reserved _)) = v
after_claim v port (Err (InUse word)) = after_exchange v port word
after_claim v port (Err NoneFree) = v
