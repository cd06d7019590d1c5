-- A map as 2,048 numbers of 32 bits: port 32 j + b is bit b of number j. This project's own.
use Rattle.std.specs.Prelude.{◌≡◌, ℕ, ◌+◌, ◌*◌, ◌<◌, ◌^◌, ◌==◌, List}
use Rattle.std.specs.Int.{bit_at}
use Rattle.std.specs.List.{flat_map}
use Rattle.byteorder.specs.Endian.{little_bytes}
use Rattle.rds_cong.specs.Map.{has_port}

-- the bits of the number are the ports from 32 j on
abbrev pub HasPortsAt : List ℕ → ℕ → ℕ → Type 0
HasPortsAt map j number = (b : ℕ) → b < 32 → (bit_at number b == 1) ≡ has_port map (32 * j + b)

-- the number has those ports and no other bits
abbrev pub IsHalf : List ℕ → ℕ → ℕ → Type 0
IsHalf map j number = HasPortsAt map j number × (number < 2 ^ 32)

-- the bytes of a map that is kept as such numbers
abbrev pub bytes_of_halves : List ℕ → List ℕ
bytes_of_halves halves = flat_map (little_bytes 4) halves
