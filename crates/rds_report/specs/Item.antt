-- Private: needed by the proofs of `report` and `summary` only. What is counted. Source: this project's own.
use Rattle.std.specs.Prelude.{ℕ, List}
use Rattle.rds_report.specs.declared.item.Group.{Group}

-- what is counted of a datagram: one that was received has its bytes
pub data What : Type 0 where
  Accepted : What
  Received : List ℕ → What
  Unread : What
  Dropped : What
  Port0 : What
  Cancelled : What

-- one datagram of a port pair, counted once
pub record Item : Type 0 where
  pub group : Group
  pub what : What
