-- A wire's count of faults while ends are given back. Source: this project's own.
use Rattle.std.specs.Prelude.{ℕ, ◌<◌, ◌^◌}
use Rattle.rds_link.specs.Streaming.{HasRisen}

-- where it had risen since some moment, when it was a u64, it has risen since then still
abbrev pub StaysRisen : (old new : ℕ) → Type 0
StaysRisen old new = (before : ℕ) → before < 2 ^ 64 → HasRisen before old → HasRisen before new
