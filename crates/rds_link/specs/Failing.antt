-- Which calls fail, where that is asked for by number. This project's own.
use Rattle.std.specs.Prelude.{ℕ, ◌+◌, ◌-◌, ◌^◌, min, List, Contains}

-- a count of calls that goes no further than the last value of a u32
abbrev pub next_call : ℕ → ℕ
next_call calls = min (calls + 1) (2 ^ 32 - 1)

-- the next call's number, from 1, is in the list
abbrev pub NextFails : List ℕ → ℕ → Type 0
NextFails fail calls = Contains fail (next_call calls)

-- which calls fail, and how many were made
pub record CallsView : Type 0 where
  pub fail : List ℕ
  pub made : ℕ
