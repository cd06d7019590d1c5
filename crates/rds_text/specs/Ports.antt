-- The set ports of a congestion map. The order of the bits is this project's own.
use Rattle.std.specs.Prelude.{ℕ, zero, suc, ◌+◌, ◌==◌, List, [], ◌∷◌, ◌++◌, filter, map}
use Rattle.std.specs.Int.{bit_at}

-- the numbers below n, ascending
abbrev pub below : ℕ → List ℕ
below zero = []
below (suc n) = below n ++ n ∷ []

-- the bits that are set in a byte, ascending, the least being bit 0
abbrev pub set_bits : ℕ → List ℕ
set_bits byte = filter (λ bit. bit_at byte bit == 1) (below 8)

-- the set ports of one byte, whose least bit is port `first`
abbrev pub ports_of_byte : ℕ → ℕ → List ℕ
ports_of_byte first byte = map (λ bit. first + bit) (set_bits byte)

-- the set ports of bytes, the first of which has port `first` as its least bit
abbrev pub ports_from : ℕ → List ℕ → List ℕ
ports_from first [] = []
ports_from first (byte ∷ bytes) = ports_of_byte first byte ++ ports_from (first + 8) bytes

-- the set ports of a map, ascending: port p is bit p mod 8 of byte p div 8
abbrev pub set_ports : List ℕ → List ℕ
set_ports bytes = ports_from 0 bytes
