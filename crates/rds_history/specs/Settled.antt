-- What a drain leaves between each two hosts: nothing is left to do, and each datagram is accounted for. Source: this
-- project's own.
use Rattle.std.specs.Prelude.{◌≡◌, ◌≢◌, ◌⊎◌, ℕ, ◌<◌, Some, List, Contains}
use Rattle.rds_model.specs.Drained.{IsQuiet, IsSettledBetween, last_map_read}
use Rattle.rds_model.specs.Pairs.{accepted_for, delivered, dropped, taken_by_port_0, taken_back}
use Rattle.rds_history.specs.Events.{Event}
use Rattle.rds_history.specs.Journals.{journal, own_map}

-- From port sport of host h to port dport of host k: each datagram that was accepted was delivered to a socket, dropped
-- where no socket held the port, taken by port 0, or taken back.
abbrev pub IsAllAccountedFor : (h sport k dport : ℕ) → List Event → Type 0
IsAllAccountedFor h sport k dport past =
    (n : ℕ) → Contains (accepted_for sport dport (journal h k past)) n →
    Contains (delivered sport dport (journal k h past)) n ⊎ Contains (dropped sport dport (journal k h past)) n
    ⊎ Contains (taken_by_port_0 sport dport (journal k h past)) n ⊎ Contains (taken_back sport dport (journal h k past)) n

-- Between hosts h and k nothing is in flight or owed on the open stream; k has read the congestion map of h as it now is; and
-- all that h sent is accounted for.
pub record IsSettledFrom (h k : ℕ) (past : List Event) : Type 0 where
  pub stream : ℕ
  pub quiet : IsQuiet stream (journal h k past) (journal k h past)
  pub settled : IsSettledBetween stream (journal h k past) (journal k h past)
  pub map_known : last_map_read (journal k h past) ≡ Some (own_map h past)
  pub accounted : (sport dport : ℕ) → IsAllAccountedFor h sport k dport past

-- so it is between each two hosts
abbrev pub IsSettledPast : (hosts : ℕ) → List Event → Type 0
IsSettledPast hosts past = (h k : ℕ) → h < hosts → k < hosts → h ≢ k → IsSettledFrom h k past
