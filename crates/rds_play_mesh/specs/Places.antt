-- Where the joints of a mesh stand. Source: this project's own.
use Rattle.std.specs.Prelude.{ℕ, zero, suc, ◌+◌, nat_lt, if◌then◌else◌}
use Rattle.rds_play_pair.specs.declared.step.PairEnd.{PairEnd}
use Rattle.rds_play_pair.specs.declared.step.PairEnd.TheVariants.{First, Second}

-- how many pairs there are of so many hosts
abbrev pub triangle : ℕ → ℕ
triangle zero = 0
triangle (suc n) = triangle n + n

-- where the joint of hosts h and k stands: those of all lower hosts come first
abbrev pub place : (h k : ℕ) → ℕ
place h k = if nat_lt h k then triangle k + h else triangle h + k

-- which end of it is that of host h: the lower host has the first
abbrev pub end_of : (h k : ℕ) → PairEnd
end_of h k = if nat_lt h k then First else Second
