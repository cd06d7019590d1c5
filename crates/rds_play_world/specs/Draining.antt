-- The parts of a drain. Source: this project's own.
use Rattle.std.specs.Prelude.{◌≡◌, ℕ, Bool, ◌≤◌, nat_lt, List, filter, map}
use Rattle.rds_text.specs.Ports.{below}
use Rattle.rds_history.specs.Drain.{HostPair}
use Rattle.rds_history.specs.Events.{Event}
use Rattle.rds_history.specs.Journals.{moved_in_all}

-- the pairs of a host with those above it, of so many hosts
abbrev pub pairs_above : (low hosts : ℕ) → List HostPair
pairs_above low hosts = map (λ high. record { low = low; high = high }) (filter (nat_lt low) (below hosts))

-- whether a byte moved since a past
pub record SaysMoved (past later : List Event) (moved : Bool) : Type 0 where
  pub forward : moved_in_all past ≤ moved_in_all later
  pub says : moved ≡ nat_lt (moved_in_all past) (moved_in_all later)
