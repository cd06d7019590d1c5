-- Why an order without a payload is refused. This project's own.
use Rattle.std.specs.Prelude.{◌≡◌, ℕ, List}
use Rattle.rds_socket_parts.specs.declared.error.CancelError.{CancelError}
use Rattle.rds_socket_parts.specs.declared.error.CancelError.TheVariants.{NoRoute, Memory}
use Rattle.rds_socket_parts.specs.Lanes.{Lane, LeadsTo, NoneTo}

-- there is no route exactly where none leads to the peer
abbrev pub AskRefused : {R : Type 0} → ℕ → List (Lane R) → CancelError → Type 0
AskRefused peer routes (NoRoute named) = (named ≡ peer) × NoneTo routes peer
AskRefused peer routes Memory = (place : ℕ) × LeadsTo routes peer place
