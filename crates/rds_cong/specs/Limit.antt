-- When a port is congested. Source: this project's own, after the soft limit of a receive buffer of rds(7).
use Rattle.std.specs.Prelude.{ℕ, ◌/◌, nat_lt, if◌then◌else◌, Bool, true, false}

-- a port is congested above its limit of bytes, isn't below half of it, rounded down, and stays as it was in between
abbrev pub congested_after : Bool → ℕ → ℕ → Bool
congested_after was queued limit = if nat_lt limit queued then true else (if nat_lt queued (limit / 2) then false else was)
