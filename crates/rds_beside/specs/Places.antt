-- What holds of the places of a list, the first of which counts as a given one.
use Rattle.std.specs.Prelude.{◌≡◌, ◌+◌, ◌<◌, ◌^◌, ℕ, List, length, slice_index_or}

module _ {T : Type 0} where
  -- P holds of each place and of what stands there, and every place is a number of 64 bits
  pub record AllFrom (P : ℕ → T → Type 0) (from : ℕ) (xs : List T) : Type 0 where
    pub room : from + length xs < 2 ^ 64
    pub each : (k : ℕ) (d : T) → k < length xs → P (from + k) (slice_index_or xs k d)

  -- R holds of each place, of what stood there and of what stands there
  pub record ChangesFrom (R : ℕ → T → T → Type 0) (from : ℕ) (xs ys : List T) : Type 0 where
    pub count : length ys ≡ length xs
    pub each : (k : ℕ) (d : T) → k < length xs → R (from + k) (slice_index_or xs k d) (slice_index_or ys k d)
